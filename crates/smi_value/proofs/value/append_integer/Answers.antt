use Rattle.std.proofs.Common.{◌≡◌, ℕ, List, ◌++◌, Option, Some, codes, refl, subst, w64, ◌∙◌, SFits, to_z, of_z}
use Rattle.std.specs.{Int.w128, Fmt.signed_decimal, Option.option_copied}
use Rattle.std.proofs.lemmas.Int.{to_z-of_z}
use Rattle.smi_value.specs.declared.base.ValueBase.TheVariants as base
use Rattle.smi_value.specs.{Syntax.syntax_at, Syntax.name_of_number, Pieces.type_word, Pieces.named_text, Value.IsIntegerText}
use Rattle.smi_value.proofs.Drafts.{adds_from}
use Rattle.smi_value.proofs.value.append_integer.Goals as goal

pub returns-in-Some : goal.returns-in-Some
returns-in-Some c =
    let same = to_z-of_z w64 c.args.n c.ranges.n in
    let at = syntax_at base.Integer (option_copied c.args.syntax) in
    let text : List ℕ = type_word c.args.letters.now (codes "INTEGER: ") ++ named_text c.args.letters.now c.in-Some.name.now (signed_decimal c.args.n) in
    let h = c.in-Some.ensures in
    let from : c.from.result ≡ c.args.n = c.from.ensures ∙ same in
    let fits : SFits w128 c.from.result = assumption in
    let wide : to_z w128 (of_z w128 c.from.result) ≡ c.args.n = to_z-of_z w128 c.from.result fits ∙ from in
    let named : Some c.in-Some.name.now ≡ name_of_number at.names c.args.n = rw wide at h in
    let P : Option (List ℕ) → Type 0 = λ name. IsIntegerText c.args.letters.now at c.args.n name text in
    let adds = adds_from _ _ _ (c.append_named.ensures.goes_on _ _ c.append_word.ensures.grows) in
    (text, subst P named refl, rw same at adds)
