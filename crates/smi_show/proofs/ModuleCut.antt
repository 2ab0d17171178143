-- `IsModuleAt`: what `module_after` returns for `text` is what it returns from the offset `at` on, with the first `at` octets put before the module. It holds
-- before each step of the loop of `cut_later_module`: `module_later` is for an `at` without `::` outside quotes, `module_here` for an `at` with it.
use Rattle.std.proofs.Common.{◌≡◌, ℕ, ◌+◌, ◌<◌, true, false, List, [], ◌∷◌, length, take, drop, get_or, Option, Some, None, refl, sym, ◌∙◌, ap, subst, arith}
use Rattle.std.proofs.lemmas.List.{drop_more, append-nil, drop-drop}
use Rattle.snmp_io.specs.Quotes.{open_after}
use Rattle.smi_show.specs.name.Cutting.{module_after}
use Rattle.smi_show.proofs.Readers.{at_colons, before_module, module_reader, one_more}

abbrev pub IsModuleAt : List ℕ → ℕ → Option ℕ → Type 0
IsModuleAt text at state = module_after None text ≡ before_module (take at text) (module_after state (drop at text))

pub module_later : (text : List ℕ) (at : ℕ) (state : Option ℕ) → at < length text → at_colons state (drop at text) ≡ false
    → IsModuleAt text at state → IsModuleAt text (at + 1) (open_after state (get_or text at 0))
module_later = one_more module_reader

pub module_here : (text : List ℕ) (at : ℕ) (state : Option ℕ) → at < length text → at_colons state (drop at text) ≡ true
    → IsModuleAt text at state → Some (take at text, drop (at + 2) text) ≡ module_after None text
module_here text at state low yes_here h =
    let here = drop_more text at 0 low in
    let is_here = subst (λ (t : List ℕ). at_colons state t ≡ true) here yes_here in
    let step : module_after state (get_or text at 0 ∷ drop (at + 1) text) ≡ Some ([], drop 1 (drop (at + 1) text)) = rw is_here refl in
    let offset : at + 1 + 1 ≡ at + 2 = omega arith in
    let rest : drop 1 (drop (at + 1) text) ≡ drop (at + 2) text = drop-drop 1 (at + 1) text ∙ ap (λ (n : ℕ). drop n text) offset in
    sym (h ∙ ap (λ (t : List ℕ). before_module (take at text) (module_after state t)) here ∙ ap (before_module (take at text)) step
    ∙ (λ i. Some (append-nil (take at text) i, rest i)))
