-- Laws of what an output takes, for proofs here and in the crates above.
use Rattle.std.specs.Prelude.{◌≡◌, ◌++◌, ℕ, List, [], Option, Some, None}
use Rattle.std.proofs.Common.{◌∙◌, ap, refl, sym, append_assoc, append-nil}
use Rattle.snmp_io.specs.Output.{Stream, TakesPrefix, octets_after, stream_after}

pub octets_after-twice : (before : Option (List ℕ)) (a b : List ℕ)
    → octets_after (octets_after before a) b ≡ octets_after before (a ++ b)
octets_after-twice None a b = refl
octets_after-twice (Some taken) a b = ap Some (append_assoc taken a b)

octets_after-nil : (before : Option (List ℕ)) → octets_after before [] ≡ before
octets_after-nil None = refl
octets_after-nil (Some taken) = ap Some (append-nil taken)

-- the stream with `taken` instead of the octets that it took
abbrev with_octets : Stream → Option (List ℕ) → Stream
with_octets s taken = record { taken = taken; faults = s.faults }

-- a stream that took the text `a` and then `b` is the same as one that took `a ++ b`
pub stream_after-twice : (before : Stream) (a b : List ℕ)
    → stream_after (stream_after before a) b ≡ stream_after before (a ++ b)
stream_after-twice before a b = ap (with_octets before) (octets_after-twice before.taken a b)

pub stream_after-nil : (before : Stream) → stream_after before [] ≡ before
stream_after-nil before = ap (with_octets before) (octets_after-nil before.taken)

-- if a stream took nothing, then it took a prefix of the text
pub nothing_taken : (before after : Stream) (text : List ℕ) → after ≡ before
    → TakesPrefix before text after
nothing_taken before after text is = record {
  prefix = [];
  rest = text;
  parts = refl;
  taken = ap (λ (s : Stream). s.taken) is ∙ sym (octets_after-nil before.taken);
}

-- if a stream took the whole text, then it took a prefix of it
pub whole_taken : (before after : Stream) (text : List ℕ) → after ≡ stream_after before text
    → TakesPrefix before text after
whole_taken before after text is = record {
  prefix = text;
  rest = [];
  parts = sym (append-nil text);
  taken = ap (λ (s : Stream). s.taken) is;
}

-- if a stream took a whole text and then a prefix of the next, then it took a prefix of the two
pub prefix_after : (before now after : Stream) (a b : List ℕ) → now ≡ stream_after before a
    → TakesPrefix now b after → TakesPrefix before (a ++ b) after
prefix_after before now after a b whole more = record {
  prefix = a ++ more.prefix;
  rest = more.rest;
  parts = ap (λ t. a ++ t) more.parts ∙ sym (append_assoc a more.prefix more.rest);
  taken = more.taken ∙ ap (λ (s : Stream). octets_after s.taken more.prefix) whole
      ∙ octets_after-twice before.taken a more.prefix;
}
