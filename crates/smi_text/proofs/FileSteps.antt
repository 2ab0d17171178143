-- Each step of the loops over definitions and over modules preserves the loop's invariant: what was read so far, and which names are defined so far.
use Rattle.std.proofs.Common.{arith, ◌≡◌, ℕ, true, false, ◌||◌, List, [], ◌∷◌, ◌++◌, Some, Ok, refl, sym, ◌∙◌, ap, append-nil, ◌<◌, Bool, length}
use Rattle.std.proofs.Common.{None, Bor}
use Rattle.std.proofs.{lemmas.Grind.common_steps, lemmas.Grind.flat_map-append, lemmas.Bool.and_parts, lemmas.Bool.and_from, lemmas.Bool.or_parts}
use Rattle.std.proofs.{Math.Bool.or-false, Math.Bool.or_comm, lemmas.Bool.Decides.same_from_decides, lemmas.List.map-append}
use Rattle.std.proofs.{lemmas.List.Folds.list_any-append, lemmas.List.Folds.list_all-append, lemmas.Slice.Eq.bytes_eq-Decides}
use Rattle.std.specs.{List.flat_map, List.list_any, BTreeSet.BTreeSet}
use Rattle.smi_text.specs.{lexer.Token.Lexeme, lexer.Token.Item, lexer.Token.tokens_of, Text.HasNoDoubles, Text.HasSecond, trees.Lookup.labels}
use Rattle.smi_text.specs.{trees.Lookup.are_distinct, declared.trees.tree.Def.Def, declared.trees.names.Name.Name}
use Rattle.smi_text.specs.{declared.trees.tree.DefKind.DefKind, declared.trees.tree.Module.Module, private.Names.has, declared.error.Stop.Stop}
use Rattle.smi_text.specs.{declared.error.ParseError.ParseError, declared.modules.Head.Head}
use Rattle.smi_text.specs.trees.Mark.{Mark, MarksToken, spelled, on_line, same_text}
use Rattle.smi_text.specs.private.Format.{ItemsMatch, Ahead, begins, many, prepend, shaped, pair, before, lower}
use Rattle.smi_text.specs.private.Grammar.{definition, file, head, module_text}
use Rattle.smi_text.specs.trees.Spelling.{label, of_def, spelling, of_head, of_module}
use Rattle.smi_text.specs.private.Returned.{text_ahead, is_memory, error_of, NewDefinitionFault, ReadsDefinitions, DefinitionsFault, ReadsModule}
use Rattle.smi_text.specs.private.Returned.{ModuleFault, ReadsModules, ModulesFault}
use Rattle.smi_text.proofs.{Marks.ItemsMatch-append, Laws.starts-with, Laws.some-inj, Tokens.taken-matched, Tokens.TokensMatch-append}
use Rattle.smi_text.proofs.ProductionLaws.{definition-law, head-law, module_text-law}
use Rattle.smi_text.specs.declared.error.ParseError.TheVariants as E
use Rattle.smi_text.proofs.Many.{reading-shorter, many-fails, many-goes_on, many-done, prepend-append, prepend-none, prepend-end}
use Rattle.smi_text.proofs.Many.{with_prefix_nil}
use Rattle.smi_text.proofs.Shorter.{definition-solid, module_text-solid}

-- ---- the label of a definition is the text of its first token

mark_text : Mark → List ℕ
mark_text (spelled k x ok) = x
mark_text (on_line n m) = mark_text m

fits-text : (m : Mark) (t : Lexeme) → MarksToken m t → mark_text m ≡ t.text
unfolding mark_text
fits-text (spelled k x ok) t h = sym h.1
fits-text (on_line n m) t h = fits-text m t h.0

label-text : (x : Name) (k : DefKind) → mark_text (label x k) ≡ x.octets
unfolding mark_text
label-text x k = grind (arith, common_steps)

pub spelled-label : (d : Def) (ts rest : List Item) → ItemsMatch (of_def d) ts rest → d.label.octets ≡ text_ahead ts
unfolding mark_text
spelled-label d (Ok t ∷ ts) rest h = sym (label-text d.label d.kind) ∙ fits-text (label d.label d.kind) t h.0.0
spelled-label d _ rest h = absurd h

pub read-label : (d : Def) (ts rest : List Item) → definition.read ts ≡ Some (d, rest) → d.label.octets ≡ text_ahead ts
read-label d ts rest h = spelled-label d ts rest (definition-law.takes ts rest d h)

-- ---- lists after one more part, label or module

flat-more : {A : Type 0} (f : A → List Mark) (xs : List A) (x : A) → flat_map f (xs ++ x ∷ []) ≡ flat_map f xs ++ f x
flat-more f xs x = flat_map-append f xs (x ∷ []) ∙ ap (λ (ms : List Mark). flat_map f xs ++ ms) (append-nil (f x))

pub matched-more : {A : Type 0} (f : A → List Mark) (xs : List A) (x : A) (ts mid rest : List Item) → ItemsMatch (flat_map f xs) ts mid
    → ItemsMatch (f x) mid rest
    → ItemsMatch (flat_map f (xs ++ x ∷ [])) ts rest
matched-more f xs x ts mid rest h k =
    rw (flat-more f xs x) (ItemsMatch-append (flat_map f xs) (f x) ts mid rest h k)

any-more : (x : List ℕ) (ys : List (List ℕ)) (y : List ℕ) → list_any (same_text x) (ys ++ y ∷ []) ≡ (same_text x y || list_any (same_text x) ys)
any-more x ys y = grind (arith, common_steps, list_any-append, or-false, or_comm)

pub same-sym : (x y : List ℕ) → same_text x y ≡ same_text y x
same-sym x y = grind (arith, common_steps, same_from_decides, bytes_eq-Decides)

labels-more : (ds : List Def) (d : Def) → labels (ds ++ d ∷ []) ≡ labels ds ++ d.label.octets ∷ []
labels-more ds d = map-append (λ (e : Def). e.label.octets) ds (d ∷ [])

distinct-text : (xs : List (List ℕ)) (x : List ℕ) → are_distinct xs ≡ true → list_any (same_text x) xs ≡ false → are_distinct (xs ++ x ∷ []) ≡ true
distinct-text [] x h k = refl
distinct-text (y ∷ ys) x h k = grind (arith, common_steps, or_parts, and_parts, and_from, any-more, same-sym, distinct-text ys x)

pub distinct-more : (ds : List Def) (d : Def) → are_distinct (labels ds) ≡ true → list_any (same_text d.label.octets) (labels ds) ≡ false
    → are_distinct (labels (ds ++ d ∷ [])) ≡ true
distinct-more ds d h k = rw (labels-more ds d) (distinct-text (labels ds) d.label.octets h k)

pub among-more : (ds : List Def) (d : Def) (x : List ℕ)
    → list_any (same_text x) (labels (ds ++ d ∷ [])) ≡ (same_text d.label.octets x || list_any (same_text x) (labels ds))
among-more ds d x = grind (arith, common_steps, labels-more, any-more, same-sym)

pub no-doubles-more : (ms : List Module) (m : Module) → HasNoDoubles ms → are_distinct (labels m.defs) ≡ true → HasNoDoubles (ms ++ m ∷ [])
no-doubles-more ms m h k = grind (arith, common_steps, list_all-append, and_from)

pub nothing-begins : (cs : List Ahead) → begins cs [] ≡ false
unfolding begins
nothing-begins cs = refl

-- ---- definitions

-- the definitions `defs` are read from the items `from`, the items `now` are left, `names` has the names that `defs` define, and none is defined twice
pub record HasRead (names : BTreeSet (ℕ × Bor (List ℕ))) (defs : List Def) (from now : List Item) : Type 0 where
  pub left : prepend defs ((many definition).read now) ≡ (many definition).read from
  pub matched : ItemsMatch (flat_map of_def defs) from now
  pub named : (x : List ℕ) → has names x ≡ list_any (same_text x) (labels defs)
  pub distinct : are_distinct (labels defs) ≡ true

pub has_read-start : (names : BTreeSet (ℕ × Bor (List ℕ))) (defs : List Def) (ts : List Item) → names.keys ≡ [] → defs ≡ [] → HasRead names defs ts ts
has_read-start names defs ts e d = grind (arith, common_steps, with_prefix_nil)

module _ (names : BTreeSet (ℕ × Bor (List ℕ))) (defs : List Def) (from now : List Item) (have : HasRead names defs from now) where
  pub has_read-done : begins definition.first now ≡ false → ReadsDefinitions defs from now
  has_read-done b = grind (arith, common_steps, many-done, prepend-end)

  pub has_read-stuck : begins definition.first now ≡ true → definition.read now ≡ None → (many definition).read from ≡ None
  has_read-stuck b e = sym have.left ∙ prepend-none defs _ (many-fails definition now b e)

  module _ (x : List ℕ) (d : Def) (rest : List Item) (ahead : begins definition.first now ≡ true) (label : x ≡ text_ahead now)
      (read : definition.read now ≡ Some (d, rest)) where
    pub has_read-shorter : length rest < length now
    has_read-shorter = reading-shorter definition-law definition-solid d now rest read

    same-label : d.label.octets ≡ x
    same-label = read-label d now rest read ∙ sym label

    pub has_read-next : (more : BTreeSet (ℕ × Bor (List ℕ))) → has names x ≡ false → ((y : List ℕ) → has more y ≡ (same_text x y || has names y))
        → HasRead more (defs ++ d ∷ []) from rest
    has_read-next more new added =
        let step = many-goes_on definition-law definition-solid d now rest ahead read in
        record {
          left = prepend-append defs (d ∷ []) _ ∙ ap (prepend defs) (sym step) ∙ have.left;
          matched = matched-more of_def defs d from now rest have.matched (definition-law.takes now rest d read);
          named = λ y. added y ∙ ap (λ (b : Bool). same_text x y || b) (have.named y)
              ∙ ap (λ (z : List ℕ). same_text z y || list_any (same_text y) (labels defs)) (sym same-label) ∙ sym (among-more defs d y);
          distinct = distinct-more defs d have.distinct (ap (λ (z : List ℕ). list_any (same_text z) (labels defs)) same-label ∙ sym (have.named x) ∙ new);
        }

    pub has_read-second : has names x ≡ true → HasSecond d.line (tokens_of from)
    has_read-second again = record {
      before = defs;
      once = have.distinct;
      second = d;
      rest = tokens_of rest;
      matched = taken-matched (flat_map of_def defs ++ of_def d) from rest
          (ItemsMatch-append (flat_map of_def defs) (of_def d) from now rest have.matched (definition-law.takes now rest d read));
      defined = ap (λ (z : List ℕ). list_any (same_text z) (labels defs)) same-label ∙ sym (have.named x) ∙ again;
      on_line = refl;
    }

-- ---- a fault of a new definition is a fault of the definitions

pub definitions-fault : (names : BTreeSet (ℕ × Bor (List ℕ))) (defs : List Def) (from now : List Item) → HasRead names defs from now
    → (x : List ℕ) → begins definition.first now ≡ true → x ≡ text_ahead now
    → (error : ParseError) → NewDefinitionFault error (has names x) now → DefinitionsFault error from
definitions-fault names defs from now have x ahead label (E.DoubleName line) f =
    rw f.1.on_line at (has_read-second names defs from now have x f.1.def f.1.rest ahead label f.1.read f.0)
definitions-fault names defs from now have x ahead label E.Memory f = tt
definitions-fault names defs from now have x ahead label _ f = has_read-stuck names defs from now have ahead f

-- if a step stops because memory ran out or no module can be read, then `ModuleFault` holds for its error
pub module-stop : (stop : Stop) (ts : List Item) → (is_memory stop ≡ false → module_text.read ts ≡ None) → ModuleFault (error_of stop) ts
module-stop stop ts h = grind (arith, common_steps)

-- ---- one module

module _ (ts mid : List Item) (h : Head) (read : head.read ts ≡ Some (h, mid)) where
  pub module-defs : (error : ParseError) → DefinitionsFault error mid → ModuleFault error ts
  unfolding module_text shaped pair before lower
  module-defs (E.DoubleName line) f = record {
    name = h.name;
    heading = h.heading;
    imports = h.imports;
    body = tokens_of mid;
    matched = taken-matched (of_head h.name h.heading h.imports) ts mid (head-law.takes ts mid h read);
    twice = f;
  }
  module-defs E.Memory f = tt
  module-defs _ f = rw (read, f) refl

-- ---- modules

-- the modules `ms` are read from the items `from`, the items `now` are left, and none of the modules defines a name twice
pub record HasModules (ms : List Module) (from now : List Item) : Type 0 where
  pub left : prepend ms ((many module_text).read now) ≡ file.read from
  pub matched : ItemsMatch (spelling ms) from now
  pub distinct : HasNoDoubles ms

pub has_modules-start : (ms : List Module) (ts : List Item) → ms ≡ [] → HasModules ms ts ts
unfolding file
has_modules-start ms ts e = grind (arith, common_steps, with_prefix_nil)

module _ (ms : List Module) (from now : List Item) (have : HasModules ms from now) where
  pub has_modules-done : now ≡ [] → ReadsModules ms from
  has_modules-done e = grind (arith, common_steps, many-done, nothing-begins, prepend-end)

  pub has_modules-shorter : (m : Module) (rest : List Item) → ReadsModule m now rest → length rest < length now
  has_modules-shorter m rest r = reading-shorter module_text-law module_text-solid m now rest r.read

  pub has_modules-next : (m : Module) (rest : List Item) → ReadsModule m now rest → HasModules (ms ++ m ∷ []) from rest
  has_modules-next m rest r =
      let ahead = starts-with module_text-law module_text-solid m now rest (module_text-law.takes now rest m r.read) in
      let step = many-goes_on module_text-law module_text-solid m now rest ahead r.read in
      record {
        left = prepend-append ms (m ∷ []) _ ∙ ap (prepend ms) (sym step) ∙ have.left;
        matched = matched-more of_module ms m from now rest have.matched (module_text-law.takes now rest m r.read);
        distinct = no-doubles-more ms m have.distinct r.distinct;
      }

  stuck : module_text.read now ≡ None → (now ≡ [] → ⊥) → (us : List Module) → file.read from ≡ Some (us, []) → ⊥
  stuck e some us h = grind (arith, common_steps, prepend-none, many-fails, many-done, prepend-end, some-inj)

  pub has_modules-fault : (error : ParseError) → (now ≡ [] → ⊥) → ModuleFault error now → ModulesFault error from
  has_modules-fault (E.DoubleName line) some f = record {
    modules = ms;
    once = have.distinct;
    name = f.name;
    heading = f.heading;
    imports = f.imports;
    body = f.body;
    matched = TokensMatch-append (spelling ms) (of_head f.name f.heading f.imports) (tokens_of from) (tokens_of now) f.body
        (taken-matched (spelling ms) from now have.matched) f.matched;
    twice = f.twice;
  }
  has_modules-fault E.Memory some f = tt
  has_modules-fault _ some f = stuck f some
