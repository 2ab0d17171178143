-- The names of a table file are looked up in a tree: a text names the identifier that it means in the tree (`names_are_meant`, `prefix_named`,
-- `prefix_unnamed`).
use Rattle.std.proofs.Common.{◌≡◌, ◌∙◌, ℕ, List, Option, Some, None, Result, Ok, Err, ap, refl, sym, subst}
use Rattle.std.specs.Result.{result_ok}
use Rattle.snmp_oid.specs.Identifier.{IsIdentifier}
use Rattle.snmp_agent.specs.table.Format.{IsLeadingName, Names, bar, names_by, numeric_names}
use Rattle.smi_show.specs.{name.Meaning.meaning, name.Meant.PrefixMeans, name.Meant.TextMeans}
use Rattle.smi_show.specs.declared.name.error.NameError.{NameError}
use Rattle.snmp_tools.specs.{serve.TableFile.names_in, serve.TableFile.AreNamesIn}
use Rattle.smi_tree.specs.{Tree.Contents}

-- a text has at most one meaning
abbrev pub OneMeaning : Type 0
OneMeaning = (tree : Contents) (text : List ℕ) (a b : Result (List ℕ) NameError) → TextMeans tree text a → TextMeans tree text b → a ≡ b

pub one_name : OneMeaning → (tree : Contents) (text a b : List ℕ) → TextMeans tree text (Ok a) → TextMeans tree text (Ok b) → a ≡ b
one_name one tree text a b h k = let same = one tree text (Ok a) (Ok b) h k in cc

pub no_name : OneMeaning → (tree : Contents) (text a : List ℕ) (error : NameError) → TextMeans tree text (Ok a) → TextMeans tree text (Err error) → ⊥
no_name one tree text a error h k = let same = one tree text (Ok a) (Err error) h k in cc

-- two look-ups by the same tree are equal
pub one_look_up : (tree : Contents) (a b : Names) → AreNamesIn tree a → AreNamesIn tree b → a ≡ b
one_look_up tree numeric_names b h k = absurd h
one_look_up tree (names_by f) numeric_names h k = absurd k
one_look_up tree (names_by f) (names_by g) h k = ap names_by (λ i text. same text (f text) (g text) refl refl i)
  where
    same : (text : List ℕ) (x y : Option (List ℕ)) → f text ≡ x → g text ≡ y → f text ≡ g text
    same text (Some o) y e d = e ∙ sym ((k text o).1 ((h text o).0 e))
    same text None None e d = e ∙ sym d
    same text None (Some o) e d = let other = (h text o).1 ((k text o).0 d) in let no : ⊥ = cc in absurd no

pub names_are_meant : ((tree : Contents) (text : List ℕ) → TextMeans tree text (meaning tree text)) → OneMeaning
    → (tree : Contents) → AreNamesIn tree (names_in tree)
names_are_meant found one tree text o =
    (at (meaning tree text) (found tree text), λ h. ap result_ok (one tree text (meaning tree text) (Ok o) (found tree text) h))
  where
    at : (read : Result (List ℕ) NameError) → TextMeans tree text read → result_ok read ≡ Some o → TextMeans tree text (Ok o)
    at (Ok p) h e = let same : p ≡ o = cc in subst (λ (n : List ℕ). TextMeans tree text (Ok n)) same h
    at (Err why) h e = let no : ⊥ = cc in absurd no

module _ (one : OneMeaning) (tree : Contents) (meant : AreNamesIn tree (names_in tree)) where
  pub prefix_named : (text o : List ℕ) (size : ℕ) → IsIdentifier o → PrefixMeans tree bar text (Ok (o, size))
      → IsLeadingName (names_in tree) text (Some (o, size))
  prefix_named text o size is h = record {
    prefix = h.0;
    is_prefix = h.1;
    named = (((meant h.0 o).1 h.2, is), λ p k. one_name one tree h.0 p o ((meant h.0 p).0 k.0) h.2);
    size = h.3;
  }

  pub prefix_unnamed : (text : List ℕ) (why : NameError) → PrefixMeans tree bar text (Err why) → IsLeadingName (names_in tree) text None
  prefix_unnamed text why h = record {
    prefix = h.0;
    is_prefix = h.1;
    named = λ p k. no_name one tree h.0 p why ((meant h.0 p).0 k.0) h.2;
    size = tt;
  }
