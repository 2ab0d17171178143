-- Arguments with a colon or a prefix, and which host, port or agent they name.
use Rattle.std.proofs.Common.{◌≡◌, ◌≢◌, ◌<◌, ◌++◌, ◌∷◌, ◌==◌, ◌↔◌, ℕ, Bool, true, false, not, IsTrue, refl, [], List, Bor, Contains, Option, Some}
use Rattle.std.proofs.Common.{None, IfSome, IfNone, MatchOption, sym, ap, ◌∙◌, length, slice_index, codes, arith, subst, inl, inr}
use Rattle.std.specs.Str.Pattern.{FindsTextPrefix, StripsPrefix}
use Rattle.std.proofs.{lemmas.Bool.Decides.nat_tests, lemmas.List.get_or_default, lemmas.List.Elements.Contains-append_right}
use Rattle.std.proofs.lemmas.Str.Pattern.{IsSplitOnceResult, split_after}
use Rattle.snmp_net.specs.Address.{Address, IsAgent, IsHost, IsHostAndPort, IsPortOfHost, IsTarget, LacksPrefix, colon, table, udp}
use Rattle.snmp_net.specs.declared.address.UdpAddress.{UdpAddress}

-- if a text contains no colon, then none is at any index
pub clear : (xs : List ℕ) → ¬ Contains xs 58 → (i : ℕ) → i < length xs → slice_index xs i ≢ 58
clear xs lacking i inside there = lacking (i, inside, get_or_default xs i 58 0 inside ∙ there)

pub not_contained : (xs : List ℕ) → ((i : ℕ) → i < length xs → slice_index xs i ≢ 58) → ¬ Contains xs 58
not_contained xs lacking (i, inside, there) = lacking i inside (sym (get_or_default xs i 58 0 inside) ∙ there)

pub not_empty : (xs : List ℕ) (empty : Bool) → empty ≡ (length xs == 0) → empty ≡ false → xs ≢ []
not_empty xs empty is off e = let long : length xs ≡ 0 = ap length e in grind (arith, nat_tests)

-- a text that isn't empty is a host if and only if no colon is found in it
pub host_test : (text : List ℕ) (found : Bool) → text ≢ [] → ((found ≡ true → (i : ℕ) × (i < length text) × (slice_index text i ≡ 58))
    × ((i : ℕ) → i < length text → slice_index text i ≡ 58 → found ≡ true)) → IsTrue (not found) ↔ IsHost text
host_test text true some finds = (
  λ is. (let w : ⊥ = cc in absurd w),
  λ host. let (i, inside, there) = finds.0 refl in absurd (clear text host.no_colon i inside there),
)
host_test text false some finds = (
  λ is. record { some = some; no_colon = not_contained text (λ i inside there. let e = finds.1 i inside there in let w : ⊥ = cc in w) },
  λ host. cc,
)

-- if an argument is a host, a colon and digits, then a split at its first colon returns this host and these digits
pub parted : (word : List ℕ) (r : Option (Bor (List ℕ) × Bor (List ℕ))) → IsSplitOnceResult 58 word r
    → (host : List ℕ) (port : ℕ) (at : IsPortOfHost word host port)
    → MatchOption r ⊥ (λ x. (x.0.now ≡ host) × (x.1.now ≡ at.digits))
parted word r split host port at = split_after 58 word host at.digits r split (omega arith) at.parts (clear host at.host_stated.no_colon)

-- if `r` is an address, and `IsPortOfHost` holds of no other host and port, then `IsHostAndPort` holds of no other
pub address_only : (word : List ℕ) (r : Option UdpAddress)
    → IfSome r (λ at. (host : List ℕ) (port : ℕ) → IsPortOfHost word host port → (host ≡ at.host.now) × (port ≡ at.port))
    → IfSome r (λ at. (host : List ℕ) (port : ℕ) → IsHostAndPort word host port → (host ≡ at.host.now) × (port ≡ at.port))
address_only word None sole = tt
address_only word (Some at) sole = λ host port h. sole host port h.2

pub address_none : (word : List ℕ) (r : Option UdpAddress) → IfNone r ((host : List ℕ) (port : ℕ) → IsPortOfHost word host port → ⊥)
    → IfNone r ((host : List ℕ) (port : ℕ) → IsHostAndPort word host port → ⊥)
address_none word (Some at) fails = tt
address_none word None fails = λ host port h. fails host port h.2

-- if the argument isn't only a host, `r` is an address, and `IsPortOfHost` holds of no other host and port, then `IsTarget` holds of no other
pub target_only : (word : List ℕ) (r : Option UdpAddress) → ¬ (IsHost word)
    → IfSome r (λ at. (host : List ℕ) (port : ℕ) → IsPortOfHost word host port → (host ≡ at.host.now) × (port ≡ at.port))
    → IfSome r (λ at. (host : List ℕ) (port : ℕ) → IsTarget word host port → (host ≡ at.host.now) × (port ≡ at.port))
target_only word None lacking sole = tt
target_only word (Some at) lacking sole = λ host port t. elim t [ inl h ↦ absurd (lacking h.0) | inr p ↦ sole host port p ]

pub target_none : (word : List ℕ) (r : Option UdpAddress) → ¬ (IsHost word)
    → IfNone r ((host : List ℕ) (port : ℕ) → IsPortOfHost word host port → ⊥)
    → IfNone r ((host : List ℕ) (port : ℕ) → IsTarget word host port → ⊥)
target_none word (Some at) lacking fails = tt
target_none word None lacking fails = λ host port t. elim t [ inl h ↦ absurd (lacking h.0) | inr p ↦ fails host port p ]

-- if an argument is only a host, then this host at port 161 is its only target
pub host_only : (word : List ℕ) → IsHost word → (host : List ℕ) (port : ℕ) → IsTarget word host port → (host ≡ word) × (port ≡ 161)
host_only word alone host port t = elim t [
  | inl h ↦ (h.1, h.2)
  | inr p ↦ let there : Contains (colon ∷ p.digits) colon = (0, omega arith, refl) in
      absurd (alone.no_colon (rw p.parts (Contains-append_right host (colon ∷ p.digits) colon there)))
]

pub after_prefix : (word prefix rest : List ℕ) → StripsPrefix (FindsTextPrefix prefix) word rest → word ≡ prefix ++ rest
after_prefix word prefix rest (k, found, is, long) = found.1 ∙ ap (λ (r : List ℕ). prefix ++ r) (sym is)

-- no argument begins with both `udp:` and `table:`
two_prefixes : (word rest path : List ℕ) → word ≡ codes "udp:" ++ rest → word ≡ codes "table:" ++ path → ⊥
two_prefixes word rest path e f =
    let u : slice_index word 0 ≡ 117 = ap (λ (w : List ℕ). slice_index w 0) e in
    let t : slice_index word 0 ≡ 116 = ap (λ (w : List ℕ). slice_index w 0) f in
    omega arith

module _ (word : List ℕ) where
  -- if `rest` names no other target than `at`, then `udp:` followed by `rest` names no other agent
  pub udp_only : (rest : List ℕ) (at : UdpAddress) → word ≡ codes "udp:" ++ rest
      → ((host : List ℕ) (port : ℕ) → IsTarget rest host port → (host ≡ at.host.now) × (port ≡ at.port))
      → (other : Address) → IsAgent word other → other ≡ udp at.host.now at.port
  udp_only rest at e sole (table path) is = absurd (two_prefixes word rest path e is.1)
  udp_only rest at e sole (udp host port) is = elim is [
    | inl (more, f, t) ↦ let same : more ≡ rest = cc in let p = sole host port (subst (λ (r : List ℕ). IsTarget r host port) same t) in cc
    | inr plain ↦ absurd (plain.1 rest e)
  ]

  pub udp_none : (rest : List ℕ) → word ≡ codes "udp:" ++ rest → ((host : List ℕ) (port : ℕ) → IsTarget rest host port → ⊥)
      → (address : Address) → IsAgent word address → ⊥
  udp_none rest e fails (table path) is = two_prefixes word rest path e is.1
  udp_none rest e fails (udp host port) is = elim is [
    | inl (more, f, t) ↦ let same : more ≡ rest = cc in fails host port (subst (λ (r : List ℕ). IsTarget r host port) same t)
    | inr plain ↦ plain.1 rest e
  ]

  module _ (no_table : LacksPrefix word (codes "table:")) (no_udp : LacksPrefix word (codes "udp:")) where
    -- if an argument without a prefix names no other target than `at`, then it names no other agent
    pub plain_only : (at : UdpAddress) → ((host : List ℕ) (port : ℕ) → IsTarget word host port → (host ≡ at.host.now) × (port ≡ at.port))
        → (other : Address) → IsAgent word other → other ≡ udp at.host.now at.port
    plain_only at sole (table path) is = absurd (no_table path is.1)
    plain_only at sole (udp host port) is = elim is [
      | inl prefixed ↦ absurd (no_udp prefixed.0 prefixed.1)
      | inr plain ↦ let p = sole host port plain.2 in cc
    ]

    pub plain_none : ((host : List ℕ) (port : ℕ) → IsTarget word host port → ⊥) → (address : Address) → IsAgent word address → ⊥
    plain_none fails (table path) is = no_table path is.1
    plain_none fails (udp host port) is = elim is [
      | inl prefixed ↦ no_udp prefixed.0 prefixed.1
      | inr plain ↦ fails host port plain.2
    ]
