-- If two trees have the same spelling except for lines, then they are the same except for lines: with 0 as each line, both are spelled by the same tokens.
use Rattle.std.proofs.Common.{arith, ◌≡◌, ℕ, Bool, true, false, List, [], ◌∷◌, ◌++◌, Option, if◌then◌else◌, refl, ◌∙◌, ap}
use Rattle.std.proofs.{lemmas.Grind.common_steps, lemmas.List.map-append, lemmas.List.Folds.flat_map-map, lemmas.Simd.map-map}
use Rattle.std.specs.{Prelude.map, Prelude.option_map, List.flat_map}
use Rattle.smi_text.specs.{lexer.Token.Lexeme, trees.Braces.has_balanced_braces, trees.Lines.plain, trees.Lines.without_lines}
use Rattle.smi_text.specs.{declared.trees.names.Name.Name, declared.trees.tree.Module.Module, declared.trees.tree.TokenText.TokenText}
use Rattle.smi_text.specs.{declared.trees.tree.DefKind.DefKind, declared.trees.tree.Part.Part, declared.trees.tree.Index.Index}
use Rattle.smi_text.specs.{declared.trees.tree.Syntax.Syntax, declared.trees.tree.Base.Base, declared.trees.tree.Refinement.Refinement}
use Rattle.smi_text.specs.trees.Mark.{Mark, spelled, on_line, MarksToken, TokensMatch}
use Rattle.smi_text.specs.trees.Spelling as say
use Rattle.smi_text.specs.declared.trees.tree.DefKind.TheVariants as D
use Rattle.smi_text.specs.declared.trees.tree.Index.TheVariants as I
use Rattle.smi_text.specs.declared.trees.tree.Syntax.TheVariants as T
use Rattle.smi_text.specs.declared.trees.tree.Refinement.TheVariants as R
use Rattle.smi_text.proofs.{Laws.some-inj, Tokens.tokens-read}

-- the mark with 0 as its line, if it has a line
abbrev zeroed : Mark → Mark
zeroed (spelled k x ok) = spelled k x ok
zeroed (on_line n m) = on_line 0 (zeroed m)

-- it makes no difference whether lines are set to 0 in the marks of a whole list, or in the marks of each element before these are joined
each : {A : Type 0} (f : A → List Mark) (xs : List A) → map zeroed (flat_map f xs) ≡ flat_map (λ x. map zeroed (f x)) xs
each f [] = refl
each f (x ∷ xs) = map-append zeroed (f x) (flat_map f xs) ∙ ap (λ ms. map zeroed (f x) ++ ms) (each f xs)

option : {A : Type 0} (f : A → List Mark) (o : Option A) → map zeroed (say.of_option f o) ≡ say.of_option (λ x. map zeroed (f x)) o
option f o = grind (arith, common_steps)

some : {A : Type 0} (f g : A → List Mark) (xs : List A) → map zeroed (say.of_some f g xs) ≡ say.of_some (λ x. map zeroed (f x)) (λ x. map zeroed (g x)) xs
some f g [] = refl
some f g (x ∷ xs) = simp (map-append, each)

option-map : {A B : Type 0} (f : B → List Mark) (g : A → B) (o : Option A) → say.of_option f (option_map g o) ≡ say.of_option (λ x. f (g x)) o
option-map f g o = grind (arith, common_steps)

put_line-zeroed : (line : ℕ) (ms : List Mark) → map zeroed (say.put_line line ms) ≡ say.put_line 0 (map zeroed ms)
put_line-zeroed line ms = grind (arith, common_steps)

ruleset zeroing = (map-append, each, some, option)

-- ---- productions without a line

part : (p : Part) → map zeroed (say.of_part p) ≡ say.of_part p
part p = grind (arith, common_steps)

later_part : (p : Part) → map zeroed (say.of_later_part p) ≡ say.of_later_part p
later_part p = grind (arith, common_steps)

refinement : (r : Refinement) → map zeroed (say.of_refinement r) ≡ say.of_refinement r
refinement (R.Numbers ns) = simp zeroing
refinement _ = simp zeroing

base : (b : Base) → map zeroed (say.of_base b) ≡ say.of_base b
base b = grind (arith, common_steps)

syntax_type : (t : Syntax) → map zeroed (say.of_syntax t) ≡ say.of_syntax t
syntax_type (T.SequenceOf x) = refl
syntax_type (T.Simple t) = simp (zeroing, base, refinement)

index_names : (xs : List Name) (b : Bool) → map zeroed (say.of_index_names xs b) ≡ say.of_index_names xs b
index_names [] b = refl
index_names (x ∷ []) b = grind (arith, common_steps)
index_names (x ∷ (y ∷ ys)) b = rw (index_names (y ∷ ys) b) refl

index : (x : Index) → map zeroed (say.of_index x) ≡ say.of_index x
index (I.Own p) = simp (map-append, index_names)
index (I.Augments x) = refl

raw : (xs : List TokenText) → map zeroed (say.of_balanced xs) ≡ say.of_balanced xs
raw xs =
    let marks = λ (b : Bool). if b then map (λ (x : TokenText). spelled x.kind x.text true) xs else say.nothing in
    elim (has_balanced_braces xs) as (λ b. map zeroed (marks b) ≡ marks b) [
      | true ↦ simp map-map
      | false ↦ refl
    ]

ruleset productions = (zeroing, part, later_part, syntax_type, index, raw)

kind : (k : DefKind) → map zeroed (say.of_kind k) ≡ say.of_kind k
kind (D.ObjectIdentifier v) = simp productions
kind _ = simp productions

label : (x : Name) (k : DefKind) → zeroed (say.label x k) ≡ say.label x k
label x k = grind (arith, common_steps)

spelling-zeroed : (ms : List Module) → map zeroed (say.spelling ms) ≡ say.spelling (map without_lines ms)
spelling-zeroed ms = simp (zeroing, part, label, kind, put_line-zeroed, option-map, flat_map-map)

-- ---- tokens

abbrev first_line : Lexeme → Lexeme
first_line t = record { kind = t.kind; span = t.span; text = t.text; line = 0 }

fits-zeroed : (m : Mark) (t : Lexeme) → MarksToken (plain m) t → MarksToken (zeroed m) (first_line t)
fits-zeroed (spelled k x ok) t h = h
fits-zeroed (on_line n m) t h = (fits-zeroed m t h, refl)

matched-zeroed : (ms : List Mark) (ts : List Lexeme) → TokensMatch (map plain ms) ts [] → TokensMatch (map zeroed ms) (map first_line ts) []
matched-zeroed [] ts h = ap (map first_line) h
matched-zeroed (m ∷ ms) [] h = h
matched-zeroed (m ∷ ms) (t ∷ ts) h = (fits-zeroed m t h.0, matched-zeroed ms ts h.1)

without_lines-matched : (ms : List Module) (ts : List Lexeme) → TokensMatch (map plain (say.spelling ms)) ts []
    → TokensMatch (say.spelling (map without_lines ms)) (map first_line ts) []
without_lines-matched ms ts h = rw (← spelling-zeroed ms) (matched-zeroed (say.spelling ms) ts h)

pub same_but_lines : (ms ns : List Module) (ts : List Lexeme) → TokensMatch (map plain (say.spelling ms)) ts []
    → TokensMatch (map plain (say.spelling ns)) ts []
    → map without_lines ms ≡ map without_lines ns
same_but_lines ms ns ts h k = grind (arith, common_steps, some-inj, tokens-read, without_lines-matched)
