-- If tokens contain a module that defines a name twice (`DefinesAgain`), then the grammar doesn't read all of these tokens as modules that each define no name
-- twice (`file-twice`).
use Rattle.std.proofs.Common.{arith, ◌≡◌, ℕ, true, false, List, [], ◌∷◌, ◌++◌, Some, None, refl, sym, ◌∙◌, ap}
use Rattle.std.proofs.{lemmas.Grind.common_steps, lemmas.List.map-append, lemmas.List.Folds.list_any-append}
use Rattle.std.proofs.lemmas.Bool.{and_parts, or_left, or_right, or_cases}
use Rattle.std.specs.List.{flat_map, list_any, list_all}
use Rattle.smi_text.specs.{lexer.Token.Lexeme, lexer.Token.Item, trees.Mark.Mark, trees.Mark.same_text, trees.Spelling.of_def, trees.Spelling.of_head}
use Rattle.smi_text.specs.{trees.Spelling.spelling, Text.HasNoDoubles, Text.HasSecond, Text.DefinesAgain, trees.Lookup.labels}
use Rattle.smi_text.specs.{trees.Lookup.are_distinct, declared.modules.Head.Head, declared.trees.tree.Def.Def, declared.trees.tree.Module.Module}
use Rattle.smi_text.specs.private.Format.{ItemsMatch, Format, Parsed, begins, apart, prepend, before, many, pair, shaped, lower}
use Rattle.smi_text.specs.private.Grammar.{definition, file, head, module_text}
use Rattle.smi_text.proofs.{Lawful.Lawful, Laws.starts-with, Laws.some-inj, Productions.all, Shorter.definition-solid, Shorter.module_text-solid}
use Rattle.smi_text.proofs.{FileSteps.read-label, FileSteps.spelled-label, FileSteps.same-sym, Tokens.all_tokens, Tokens.taken-tokens}
use Rattle.smi_text.proofs.{Marks.ItemsMatch-split, Marks.apart-false, Marks.map-inv, Many.many-fails, Many.many-goes_on}
use Rattle.smi_text.proofs.ProductionLaws.{definition-law, head-law, module_text-law}

prefixes-inv : {A : Type 0} (xs : List A) (r : Parsed (List A)) (ys : List A) (rest : List Item) → prepend xs r ≡ Some (ys, rest)
    → (zs : List A) × (r ≡ Some (zs, rest)) × (ys ≡ xs ++ zs)
unfolding prepend
prefixes-inv xs None ys rest h = absurd (cc)
prefixes-inv {A} xs (Some p) ys rest h = grind (arith, common_steps, some-inj)

-- The format `f` is lawful, always takes a token, and may read one value after another. If the items `ts` begin with the spelling of the values `xs`, the token
-- after this spelling begins another value, and `many f` reads `ts`, then it reads `xs`, this value, and perhaps others.
module _ {A : Type 0} {s : A → List Mark} {f : Format A} (law : Lawful s f) (solid : f.empty ≡ false) (far : apart f.stop f.first ≡ true) where
  begin-again : (xs : List A) (ts mid : List Item) → ItemsMatch (flat_map s xs) ts mid → begins f.first mid ≡ true → begins f.first ts ≡ true
  begin-again [] ts mid h b = ap (begins f.first) h ∙ b
  begin-again (x ∷ xs) ts mid h b = grind (arith, common_steps, ItemsMatch-split, starts-with)

  many-before : (xs : List A) (ts mid rest : List Item) (ys : List A) → ItemsMatch (flat_map s xs) ts mid → begins f.first mid ≡ true
      → (many f).read ts ≡ Some (ys, rest) → (x : A) × (more : List A) × (after : List Item) × (f.read mid ≡ Some (x, after)) × (ys ≡ xs ++ x ∷ more)
  many-before [] ts mid rest ys h b r =
      elim (f.read mid) as (λ o. f.read mid ≡ o → (x : A) × (more : List A) × (after : List Item) × (f.read mid ≡ Some (x, after))
      × (ys ≡ x ∷ more)) [
        | None ↦ λ e. absurd (cc (h, r, many-fails f mid b e))
        | Some p ↦ λ e.
            let q = prefixes-inv (p.0 ∷ []) ((many f).read p.1) ys rest (sym (many-goes_on law solid p.0 mid p.1 b e) ∙ rw h at r) in
            (p.0, q.0, p.1, e, q.2)
      ] refl
  many-before (x ∷ xs) ts mid rest ys h b r =
      let p = ItemsMatch-split (s x) (flat_map s xs) ts mid h in
      let read = law.again x ts p.0 p.1 (apart-false f.stop f.first p.0 far (begin-again xs p.0 mid p.2 b)) in
      let q = prefixes-inv (x ∷ []) ((many f).read p.0) ys rest (sym (many-goes_on law solid x ts p.0 (starts-with law solid x ts p.0 p.1) read) ∙ r) in
      let later = many-before xs p.0 mid rest q.0 p.2 b q.1 in
      (later.0, later.1, later.2, later.3, cc (q.2, later.4))

-- ---- names that occur twice

any-middle : (x y : List ℕ) (xs ys : List (List ℕ)) → same_text y x ≡ true → list_any (same_text x) (xs ++ y ∷ ys) ≡ true
any-middle x y xs ys h = grind (arith, common_steps, list_any-append, or_right, or_left, same-sym x y)

twice : (xs ys : List (List ℕ)) (y : List ℕ) → list_any (same_text y) xs ≡ true → are_distinct (xs ++ y ∷ ys) ≡ true → ⊥
twice [] ys y h k = cc
twice (x ∷ xs) ys y h k = grind (arith, common_steps, or_cases, and_parts, any-middle x y xs ys, twice xs ys y)

-- ---- definitions

definition-apart : apart definition.stop definition.first ≡ true
unfolding all
definition-apart = refl

module _ (line : ℕ) (body : List Lexeme) (s : HasSecond line body) where
  halves : (mid : List Item) × ItemsMatch (flat_map of_def s.before) (all_tokens body) mid × ItemsMatch (of_def s.second) mid (all_tokens s.rest)
  halves = ItemsMatch-split (flat_map of_def s.before) (of_def s.second) (all_tokens body) (all_tokens s.rest)
      (taken-tokens (flat_map of_def s.before ++ of_def s.second) body s.rest s.matched)

  second-ahead : begins definition.first halves.0 ≡ true
  second-ahead = starts-with definition-law definition-solid s.second halves.0 (all_tokens s.rest) halves.2

  body-ahead : begins definition.first (all_tokens body) ≡ true
  body-ahead = begin-again definition-law definition-solid definition-apart s.before (all_tokens body) halves.0 halves.1 second-ahead

  definitions-twice : (ds : List Def) (rest : List Item) → (many definition).read (all_tokens body) ≡ Some (ds, rest) → are_distinct (labels ds) ≡ true → ⊥
  definitions-twice ds rest h k =
      let f = many-before definition-law definition-solid definition-apart s.before (all_tokens body) halves.0 rest ds halves.1 second-ahead h in
      let same : s.second.label.octets ≡ f.0.label.octets = spelled-label s.second halves.0 (all_tokens s.rest) halves.2
      ∙ sym (read-label f.0 halves.0 f.2 f.3) in
      let all : labels ds ≡ labels s.before ++ f.0.label.octets ∷ labels f.1 = ap labels f.4
      ∙ map-append (λ (d : Def). d.label.octets) s.before (f.0 ∷ f.1) in
      twice (labels s.before) (labels f.1) f.0.label.octets (rw same at s.defined) (rw all at k)

-- ---- modules

all-middle : (ms : List Module) (m : Module) (ns : List Module) → HasNoDoubles (ms ++ m ∷ ns) → are_distinct (labels m.defs) ≡ true
all-middle [] m ns h = (and_parts (are_distinct (labels m.defs)) (list_all (λ n. are_distinct (labels n.defs)) ns) h).0
all-middle (x ∷ xs) m ns h = all-middle xs m ns (and_parts (are_distinct (labels x.defs)) (list_all (λ n. are_distinct (labels n.defs)) (xs ++ m ∷ ns)) h).1

module-apart : apart module_text.stop module_text.first ≡ true
unfolding all
module-apart = refl

module-inv : (ts body : List Item) (h : Head) (m : Module) (rest : List Item) → head.read ts ≡ Some (h, body) → module_text.read ts ≡ Some (m, rest)
    → (after : List Item) × ((many definition).read body ≡ Some (m.defs, after))
unfolding module_text shaped pair before lower
module-inv ts body h m rest e r =
    elim ((many definition).read body) as (λ o. (many definition).read body ≡ o → (after : List Item) × ((many definition).read body ≡ Some (m.defs, after))) [
      | None ↦ λ d. absurd (let no : module_text.read ts ≡ None = rw (e, d) refl in cc (no, r))
      | Some p ↦ λ d. (p.1, grind (arith, common_steps, map-inv, some-inj))
    ] refl

module _ (line : ℕ) (tokens : List Lexeme) (d : DefinesAgain line tokens) where
  opened : (mid : List Item) × ItemsMatch (spelling d.modules) (all_tokens tokens) mid
      × ItemsMatch (of_head d.name d.heading d.imports) mid (all_tokens d.body)
  opened = ItemsMatch-split (spelling d.modules) (of_head d.name d.heading d.imports) (all_tokens tokens) (all_tokens d.body)
      (taken-tokens (spelling d.modules ++ of_head d.name d.heading d.imports) tokens d.body d.matched)

  abbrev top : Head
  top = record { name = d.name; heading = d.heading; imports = d.imports }

  head-read : head.read opened.0 ≡ Some (top, all_tokens d.body)
  unfolding all
  head-read = head-law.again top opened.0 (all_tokens d.body) opened.2
      (apart-false head.stop definition.first (all_tokens d.body) refl (body-ahead line d.body d.twice))

  module-ahead : begins module_text.first opened.0 ≡ true
  unfolding all
  module-ahead = starts-with head-law refl top opened.0 (all_tokens d.body) opened.2

  pub file-twice : (ns : List Module) → file.read (all_tokens tokens) ≡ Some (ns, []) → HasNoDoubles ns → ⊥
  unfolding file
  file-twice ns h k =
      let f = many-before module_text-law module_text-solid module-apart d.modules (all_tokens tokens) opened.0 [] ns opened.1 module-ahead h in
      let defs = module-inv opened.0 (all_tokens d.body) top f.0 f.2 head-read f.3 in
      definitions-twice line d.body d.twice f.0.defs defs.0 defs.1 (all-middle d.modules f.0 f.1 (rw (f.4) at k))
