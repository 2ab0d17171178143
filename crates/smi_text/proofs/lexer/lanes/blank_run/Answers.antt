use Rattle.std.proofs.{Common.ℕ, Common.bit_and, Common.refl, lemmas.Simd.zip2_splat, lemmas.Simd.zip2_of_maps, lemmas.Simd.length-chunk}
use Rattle.smi_text.specs.lexer.LongestMatch.{is_space_or_tab}
use Rattle.smi_text.proofs.Lanes.{run_in}
use lib.Lanes.{chunk}
use Rattle.smi_text.proofs.lexer.lanes.blank_run.Goals as goal

pub returns : goal.returns
returns c =
    let octets = chunk c.args.at 16 c.args.text.now in
    let long = length-chunk c.args.at 16 c.args.text.now c.requires in
    run_in is_space_or_tab c.args.text.now c.args.at _ _ c.requires c.type_inv.text c.first_set.ensures _
    (zip2_of_maps bit_and _ _ octets (zip2_splat {Y = ℕ} _ octets 16 _ long) (zip2_splat {Y = ℕ} _ octets 16 _ long)) refl
