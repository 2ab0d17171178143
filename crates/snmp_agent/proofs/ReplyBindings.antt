-- If bindings are appended to a reply, then the reply has a prefix of them: those before the first that has no room (`all_prefix`).
use Rattle.std.proofs.{lemmas.Grind.common_steps, lemmas.Grind.flat_map-append, lemmas.List.append-nil, lemmas.Bool.Decides.nat_tests, lemmas.Bool.cases_lt}
use Rattle.std.proofs.Common.{◌≡◌, ◌≢◌, ℕ, ◌+◌, ◌-◌, ◌≤◌, ◌<◌, List, [], ◌∷◌, ◌++◌, length, refl, ⊎_elim, sym, ap, ◌∙◌, arith, length-append}
use Rattle.std.proofs.Common.{append_assoc, ◌⊎◌, take}
use Rattle.snmp_wire.specs.{Message.VarBind, Canon.canon_binding, Canon.canon_bindings, Canon.canon_element, Canon.canon_header}
use Rattle.snmp_agent.specs.declared.room.ReplyBindings.{ReplyBindings}
use Rattle.snmp_agent.specs.private.Answering.{Held, add, fill, held}

-- a binding takes at least one octet
pub some_octets : (p : VarBind) → 0 < length (canon_binding p)
unfolding canon_binding canon_element canon_header
some_octets p = omega arith

-- a binding that has room is appended
added : (h : Held) (p : VarBind) → length (canon_binding p) ≤ h.left
    → add h p ≡ record { octets = h.octets ++ canon_binding p; left = h.left - length (canon_binding p) }
unfolding add
added h p fits = grind (arith, nat_tests)

-- after a binding that has no room, no room is left
refused : (h : Held) (p : VarBind) → h.left < length (canon_binding p) → add h p ≡ record { octets = h.octets; left = 0 }
unfolding add
refused h p large = grind (arith, nat_tests)

-- if the octets of the binding `p` are appended to those of `h`, and `left` is less than `h.left` by the number of these octets, then the result is `add h p`
pub held_more : (h : Held) (p : VarBind) (octets : List ℕ) (left : ℕ) → octets ≡ h.octets ++ canon_binding p → left + length (canon_binding p) ≡ h.left
    → record { octets = octets; left = left } ≡ add h p
held_more h p octets left more size = grind (arith, common_steps, added)

pub held_full : (h : Held) (p : VarBind) (octets : List ℕ) (left : ℕ) → octets ≡ h.octets → left ≡ 0 → h.left < length (canon_binding p)
    → record { octets = octets; left = left } ≡ add h p
held_full h p octets left same full large = (λ i. record { octets = same i; left = full i }) ∙ sym (refused h p large)

pub fill_both : (h : Held) (a b : List VarBind) → fill h (a ++ b) ≡ fill (fill h a) b
fill_both h [] b = refl
fill_both h (p ∷ a) b = fill_both (add h p) a b

add_full : (h : Held) (p : VarBind) → h.left ≡ 0 → add h p ≡ h
add_full h p full = refused h p (omega (arith, some_octets p)) ∙ (λ i. record { octets = h.octets; left = sym full i })

-- if no room is left, nothing is appended
pub fill_full : (h : Held) (more : List VarBind) → h.left ≡ 0 → fill h more ≡ h
fill_full h [] full = refl
fill_full h (p ∷ more) full = ap (λ (g : Held). fill g more) (add_full h p full) ∙ fill_full h more full

-- ---- prefixes

-- the list of bindings is empty, or its first binding, appended after `total` octets, takes more than `room` octets together with them
abbrev pub HasNoRoom : ℕ → ℕ → List VarBind → Type 0
HasNoRoom room total [] = Unit {0}
HasNoRoom room total (p ∷ more) = room < total + length (canon_binding p)

-- `end` has the octets `start`, followed by a prefix of the bindings `all`. If the prefix is `all`, then `end.left` octets of `room` are left; otherwise the
-- binding after the prefix had no room, and no room is left.
pub record HoldsPrefix (room : ℕ) (start : List ℕ) (all : List VarBind) (end : Held) : Type 0 where
  pub added : List VarBind
  pub more : List VarBind
  pub prefix : all ≡ added ++ more
  pub octets : end.octets ≡ start ++ canon_bindings added
  pub fits : length end.octets + end.left ≤ room
  pub no_room : HasNoRoom room (length end.octets) more
  pub whole : more ≡ [] → length end.octets + end.left ≡ room
  pub full : more ≢ [] → end.left ≡ 0

bindings-first : (p : VarBind) (more : List VarBind) → canon_bindings (p ∷ more) ≡ canon_binding p ++ canon_bindings more
unfolding canon_bindings
bindings-first p more = refl

pub no_bindings : canon_bindings [] ≡ []
unfolding canon_bindings
no_bindings = refl

prefix_of : (room : ℕ) (h : Held) (all : List VarBind) → length h.octets + h.left ≡ room → HoldsPrefix room h.octets all (fill h all)
prefix_of room h [] is = grind (arith, common_steps, added, append-nil, no_bindings)
prefix_of room h (p ∷ more) is = ⊎_elim
    (λ large. rw (refused h p large, fill_full (record { octets = h.octets; left = 0 }) more refl) (record {
      added = [];
      more = p ∷ more;
      prefix = refl;
      octets = sym (append-nil h.octets) ∙ ap (λ octets. h.octets ++ octets) (sym no_bindings);
      fits = omega arith;
      no_room = omega arith;
      whole = λ e. let never : ⊥ = cc in absurd never;
      full = λ e. refl;
    }))
    (λ fits.
    let next : Held = record { octets = h.octets ++ canon_binding p; left = h.left - length (canon_binding p) } in
    let rest = prefix_of room next more (omega (arith, length-append h.octets (canon_binding p))) in
    rw (added h p fits) (record {
      added = p ∷ rest.added;
      more = rest.more;
      prefix = ap (λ ps. p ∷ ps) rest.prefix;
      octets = rest.octets ∙ append_assoc h.octets (canon_binding p) (canon_bindings rest.added)
          ∙ ap (λ octets. h.octets ++ octets) (sym (bindings-first p rest.added));
      fits = rest.fits;
      no_room = rest.no_room;
      whole = rest.whole;
      full = rest.full;
    }))
    (cases_lt h.left (length (canon_binding p)))

-- if bindings are appended to an empty reply, a prefix of them is written
pub all_prefix : (room : ℕ) (all : List VarBind) (fresh reply : ReplyBindings) (out new : List ℕ) → fresh.total ≡ 0 → fresh.left ≡ room
    → held reply new ≡ fill (held fresh out) all → HoldsPrefix room [] all (held reply new)
all_prefix room all fresh reply out new empty left same = grind (arith, common_steps, prefix_of)

-- ---- whether a message with these bindings stays within its limit

-- the length of bindings is the sum of three lengths: of the bindings before `p`, of `p`, and of the bindings after it
pub longer_by : (prefix rest : List VarBind) (p : VarBind)
    → length (canon_bindings (prefix ++ p ∷ rest)) ≡ length (canon_bindings prefix) + (length (canon_binding p) + length (canon_bindings rest))
unfolding canon_bindings
longer_by prefix rest p = grind (arith, common_steps, flat_map-append, length-append)

-- if bindings were appended to an empty reply with room for `limit` octets, then all were written, or they take more than `limit` octets and no room is left
pub all_or_full : (limit : ℕ) (reply : ReplyBindings) (out : List ℕ) (returned : List VarBind) → length (take reply.total out) ≡ reply.total
    → HoldsPrefix limit [] returned (held reply out)
    → (take (limit - reply.left) out ≡ canon_bindings returned) ⊎ ((reply.left ≡ 0) × (limit < length (canon_bindings returned)))
all_or_full limit reply out returned size prefix = grind (arith, common_steps, append-nil, longer_by)
