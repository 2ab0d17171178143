-- The modules of one more file are appended to the modules of the files before it (`AreModulesOf-more`). Files that are known to hold modules have only one
-- list of them (`one_list`). The first file that fails is the reason of a refusal (`refused_at`).
use Rattle.std.proofs.Common.{arith, ◌≡◌, ◌∙◌, ◌⊎◌, inl, inr, ◌++◌, ◌+◌, ◌<◌, ap, ap₂, refl, sym, subst, ℕ, List, [], ◌∷◌, Bor, Option, Some, take}
use Rattle.std.proofs.Common.{drop, length, get_or, unwrap_or, append_assoc, append-nil}
use Rattle.std.proofs.lemmas.Grind.{common_steps}
use Rattle.smi_text.specs.{lexer.Lexes.Lexes, lexer.Token.Item, lexer.Token.Lexeme, trees.Mark.TokensMatch, trees.Spelling.spelling, Text.AreSpelledBy}
use Rattle.smi_text.specs.declared.trees.tree.Module.{Module}
use Rattle.snmp_io.specs.{Files.Holdings, Files.Holds, Files.MayHold, Steps.AreDone}
use Rattle.snmp_tools.specs.load.Files.{AreModulesIn, AreModulesOf, FileFails, IsFilesRefusal, MayHoldModules, Refusal, no_memory, texts}
use Rattle.snmp_tools.proofs.Texts.{texts-parts}

pub AreModulesOf-more : (Held : (path text : List ℕ) → Type 0) (paths : List (List ℕ)) (path : List ℕ) (ms first : List Module)
    → AreModulesOf Held paths ms → AreModulesIn Held path first → AreModulesOf Held (paths ++ path ∷ []) (ms ++ first)
AreModulesOf-more Held [] path ms first none one = (first, [], one, refl, ap (λ (xs : List Module). xs ++ first) none ∙ sym (append-nil first))
AreModulesOf-more Held (p ∷ paths) path ms first (here, rest, is, more, whole) one =
    let all = ap (λ (xs : List Module). xs ++ first) whole ∙ append_assoc here rest first in
    (here, rest ++ first, is, AreModulesOf-more Held paths path rest first more one, all)

abbrev OneLexing : Type 0
OneLexing = (before text : List ℕ) (xs ys : List Item) → Lexes before text xs → Lexes before text ys → xs ≡ ys

abbrev OneReading : Type 0
OneReading = (ms ns : List Module) (tokens : List Lexeme) → TokensMatch (spelling ms) tokens [] → TokensMatch (spelling ns) tokens [] → ms ≡ ns

one_spelled : OneLexing → OneReading → (ms ns : List Module) (text : List ℕ) → AreSpelledBy ms text → AreSpelledBy ns text → ms ≡ ns
one_spelled lexing reading ms ns text a b = grind (arith, common_steps)

some_inj : (x y : List ℕ) → Some x ≡ Some y → x ≡ y
some_inj x y e = ap (λ (o : Option (List ℕ)). unwrap_or o x) e

one_text : (files : Holdings) (path text other : List ℕ) → Holds files path text → MayHold files path other → other ≡ text
one_text files path text other held may = grind (arith, common_steps, some_inj)

one_in : OneLexing → OneReading → (files : Holdings) (path : List ℕ) (ms ns : List Module)
    → AreModulesIn (Holds files) path ms → AreModulesIn (MayHold files) path ns → ms ≡ ns
one_in lexing reading files path ms ns (text, held, spells, once) (other, may, spells_too, once_too) = grind (arith, common_steps, one_spelled, one_text)

pub one_list : OneLexing → OneReading → (files : Holdings) (paths : List (List ℕ)) (ms ns : List Module)
    → AreModulesOf (Holds files) paths ms → AreModulesOf (MayHold files) paths ns → ms ≡ ns
one_list lexing reading files [] ms ns none none_too = none ∙ sym none_too
one_list lexing reading files (path ∷ paths) ms ns (first, rest, is, more, whole) (first', rest', is', more', whole') =
    whole ∙ ap₂ (λ (xs ys : List Module). xs ++ ys) (one_in lexing reading files path first first' is is')
    (one_list lexing reading files paths rest rest' more more') ∙ sym whole'

-- if the modules of files were read, each of the files may hold modules
are_read : (files : Holdings) (paths : List (List ℕ)) (ms : List Module) → AreModulesOf (MayHold files) paths ms → AreDone (MayHoldModules files) paths
are_read files [] ms none = tt
are_read files (path ∷ paths) ms (first, rest, is, more, whole) = ((first, is), are_read files paths rest more)

-- if the files before index `i` were read, and memory runs out or the file at `i` fails, then the files are refused for this reason
pub refused_at : (files : Holdings) (paths : List (Bor (List ℕ))) (i : ℕ) (d : Bor (List ℕ)) (ms : List Module) (why : Refusal) → i < length paths
    → AreModulesOf (MayHold files) (texts (take i paths)) ms → (why ≡ no_memory) ⊎ FileFails files (get_or paths i d).now why
    → IsFilesRefusal files (texts paths) why
refused_at files paths i d ms why inside read (inl none) = inl none
refused_at files paths i d ms why inside read (inr fails) = inr (record {
  done = texts (take i paths);
  failed = (get_or paths i d).now;
  left = texts (drop (i + 1) paths);
  order = texts-parts paths i d inside;
  are_done = are_read files (texts (take i paths)) ms read;
  fails = fails;
})

-- if files are known to hold modules, then each file among them is known to hold modules
pub held_at : (files : Holdings) (before : List (List ℕ)) (path : List ℕ) (left : List (List ℕ)) (ms : List Module)
    → AreModulesOf (Holds files) (before ++ path ∷ left) ms → (first : List Module) × AreModulesIn (Holds files) path first
held_at files [] path left ms (first, rest, is, more, whole) = (first, is)
held_at files (p ∷ before) path left ms (first, rest, is, more, whole) = held_at files before path left rest more

pub held_among : (files : Holdings) (paths : List (Bor (List ℕ))) (i : ℕ) (d : Bor (List ℕ)) (ms : List Module) → i < length paths
    → AreModulesOf (Holds files) (texts paths) ms → (first : List Module) × AreModulesIn (Holds files) (get_or paths i d).now first
held_among files paths i d ms inside are =
    held_at files (texts (take i paths)) (get_or paths i d).now (texts (drop (i + 1) paths)) ms
    (subst (λ (ps : List (List ℕ)). AreModulesOf (Holds files) ps ms) (texts-parts paths i d inside) are)
