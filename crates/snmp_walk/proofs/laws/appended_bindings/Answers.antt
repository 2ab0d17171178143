use Rattle.std.proofs.Common.{◌≡◌, ◌∙◌, List, [], ◌∷◌, ◌++◌, sym, ap, append_assoc}
use Rattle.std.proofs.lemmas.List.{append-nil}
use Rattle.snmp_wire.specs.Message.{VarBind}
use Rattle.snmp_walk.specs.{Appends.Appends, Sink.TakesAll, Sink.Took, declared.end.WalkEnd.WalkEnd}
use Rattle.snmp_walk.specs.declared.end.WalkEnd.TheVariants as ending
use Rattle.snmp_walk.proofs.laws.appended_bindings.Goals as goal

given_all : (old rows new : List VarBind) → TakesAll Appends old rows new → new ≡ old ++ rows
given_all old [] new h = h ∙ sym (append-nil old)
given_all old (p ∷ more) new h = given_all h.0 more new h.2 ∙ (ap (λ (xs : List VarBind). xs ++ more) h.1 ∙ append_assoc old (p ∷ []) more)

took_all : (old rows refused new : List VarBind) (end : WalkEnd) → Took Appends old rows refused end new → new ≡ old ++ rows
took_all old rows refused new (ending.Sink fault) h = h.2.2 ∙ given_all old rows h.0 h.1
took_all old rows refused new end h = given_all old rows new h.0

pub returns : goal.returns
returns c = λ old rows refused new end h. took_all old rows refused new end h
