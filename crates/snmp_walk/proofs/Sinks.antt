-- If a sink took the bindings `xs` and then `ys`, it took `xs ++ ys` (`given-append`).
use Rattle.std.proofs.Common.{List, [], ◌∷◌, ◌++◌, refl, subst, Ok}
use Rattle.std.specs.Prelude.{Result}
use Rattle.snmp_wire.specs.Message.{VarBind}
use Rattle.snmp_walk.specs.{declared.end.SinkFault.SinkFault, Sink.TakesAll}

module _ (S : Type 0) (takes : S → VarBind → Result (Unit {0}) SinkFault → S → Type 0) where
  pub given-append : (xs ys : List VarBind) (s t u : S) → TakesAll takes s xs t → TakesAll takes t ys u → TakesAll takes s (xs ++ ys) u
  given-append [] ys s t u h k = subst (λ (v : S). TakesAll takes v ys u) h k
  given-append (x ∷ xs) ys s t u h k = (h.0, h.1, given-append xs ys h.0 t u h.2 k)

  pub given-one : (p : VarBind) (s t : S) → takes s p (Ok tt) t → TakesAll takes s (p ∷ []) t
  given-one p s t h = (t, h, refl)
