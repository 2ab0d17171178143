-- The request of a walk, written as its head and then the binding with the requested name (`request_made`).
use Rattle.std.proofs.Common.{◌≡◌, ◌≤◌, ◌+◌, List, ℕ, [], ◌++◌, length, take, length-append, append_assoc, sym, ap, ◌∙◌, arith}
use Rattle.std.proofs.lemmas.List.{take_at}
use Rattle.snmp_wire.specs.{Canon.canon, Canon.canon_binding, Canon.canon_head, Laws.HasPieces, Message.Message, Name.asking}
use Rattle.snmp_walk.specs.{Request.request_of, WalkState.WalkState}
use Rattle.snmp_walk.proofs.{GetNames.canon_one, GetNames.pieces_of, GetNames.size_of, RequestParts.name_short}

pub asking_short : (asked name : List ℕ) → name ≡ asked → length asked ≤ 128 → length (canon_binding (asking name)) ≤ 658
asking_short asked name e h =
    omega (arith, name_short asked h, ap length (canon_one (asking asked)), ap (λ (o : List ℕ). length (canon_binding (asking o))) e)

module _ (law : HasPieces) (w : WalkState) (bare : Message) (same : bare ≡ record (request_of w) { bindings = [] }) (name : List ℕ) (e : name ≡ w.asked)
    (total : ℕ) (long : total ≡ length (canon_binding (asking name))) where
  alone : canon_binding (asking name) ≡ canon_binding (asking w.asked)
  alone = ap (λ (o : List ℕ). canon_binding (asking o)) e

  pub request_size : length (canon_head bare total) + total ≡ length (canon (request_of w))
  request_size = size_of law (request_of w) bare same total (long ∙ ap length (alone ∙ sym (canon_one (asking w.asked))))

  pub request_made : (head len : ℕ) (held rest part tail more : List ℕ) → head ≡ length (canon_head bare total) → held ≡ canon_head bare total ++ rest
      → len ≡ length (canon_binding (asking name)) → part ≡ canon_binding (asking name) ++ tail
      → take (head + len) (take head held ++ (part ++ more)) ≡ canon (request_of w)
  request_made head len held rest part tail more begins is goes_on asks =
      let prefix = canon_head bare total in
      let back = canon_binding (asking name) in
      let first : take head held ≡ prefix = ap (take head) is ∙ take_at prefix rest head (sym begins) in
      let both : length (prefix ++ back) ≡ head + len = omega (arith, begins, goes_on, length-append prefix back) in
      ap (λ (t : List ℕ). take (head + len) (t ++ (part ++ more))) first
      ∙ ap (λ (t : List ℕ). take (head + len) (prefix ++ (t ++ more))) asks
      ∙ ap (take (head + len)) (ap (λ (t : List ℕ). prefix ++ t) (append_assoc back tail more) ∙ sym (append_assoc prefix back (tail ++ more)))
      ∙ take_at (prefix ++ back) (tail ++ more) (head + len) both
      ∙ pieces_of law (request_of w) bare same total back (long ∙ ap length (alone ∙ sym (canon_one (asking w.asked))))
      (alone ∙ sym (canon_one (asking w.asked)))
