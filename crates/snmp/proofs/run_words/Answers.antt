use Rattle.std.proofs.Common.{Bor, List, ap, map, subst, ℕ, ◌∙◌}
use Rattle.snmp_tools.specs.Done.{AreWordsDone}
use Rattle.snmp_tools.specs.Seen.{seen}
use Rattle.snmp.proofs.run_words.Goals as goal

pub returns : goal.returns
returns g c =
    subst (λ (words : List (List ℕ)). AreWordsDone g.L.Links g.L.Wire.Link words
    (seen (g.F.Files.text_at c.args.files.now) c.args.links.now (g.O.Output.stream c.args.out.now) (g.E.Output.stream c.args.err.now))
    (seen (g.F.Files.text_at c.args.files.now) c.tool.new.links (g.O.Output.stream c.tool.new.out) (g.E.Output.stream c.tool.new.err)) c.tool.result)
    (ap (λ (texts : List (Bor (List ℕ))). map (λ (text : Bor (List ℕ)). text.now) texts) c.as_slice.ensures.value ∙ c.in_ok-texts.ensures) c.tool.ensures.done
