-- Digits up to a dot, or to the end, are one part of a name: a number.
use Rattle.std.proofs.Common.{◌≡◌, ℕ, List, [], ◌∷◌, ◌++◌, MatchOption, Option, Some, None, Result, sym, ◌∙◌, ap}
use Rattle.std.proofs.lemmas.List.{append-nil}
use Rattle.snmp_oid.specs.Numeric.{IsNumeral, IsPartRead, dot}
use Rattle.smi_show.specs.declared.name.error.NameError.{NameError}
use Rattle.smi_show.specs.{name.Cutting.name_parts, private.name.Left.parts_left, name.Word.Word}
use Rattle.smi_show.specs.name.Meaning.{and_then, fitting, further_meaning, parts_meaning, word_meaning}
use Rattle.smi_tree.specs.{Naming.oid_of_child, Tree.Contents}
use Rattle.smi_show.proofs.{PlainOctets.plain_digits, ShownWords.IsWhole, ShownWords.cuts, ShownWords.plain_is_whole, Words.digits_word}

-- `part` is the number `n` in digits, and `text` is `part`, or `part` followed by a dot and `rest`: after parts that mean `o`, `text` means `TooLong` if `o`
-- followed by `n` has more than 128 numbers, otherwise what the parts of `rest`, if there are any, mean after `o` followed by `n`
pub number_next : (tree : Contents) (look_up : List ℕ → Option (List ℕ)) (o text part : List ℕ) (n : ℕ) (after : Option (List ℕ)) → IsNumeral part n
    → MatchOption after (text ≡ part) (λ rest. text ≡ part ++ dot ∷ rest)
    → parts_meaning tree look_up o (name_parts text)
    ≡ and_then (fitting (o ++ n ∷ [])) (λ p. further_meaning tree p (parts_left after))
number_next tree look_up o text part n after numeral is =
    ap (parts_meaning tree look_up o) (number_parts after is)
    ∙ ap (λ (w : Result Word NameError). and_then (and_then w (word_meaning look_up o)) (λ p. further_meaning tree p (parts_left after)))
    (digits_word part n numeral)
  where
    whole : IsWhole part
    whole = plain_is_whole part (plain_digits part numeral.digits)

    number_parts : (after : Option (List ℕ)) → MatchOption after (text ≡ part) (λ rest. text ≡ part ++ dot ∷ rest)
        → name_parts text ≡ part ∷ parts_left after
    number_parts None is = ap name_parts (is ∙ sym (append-nil part)) ∙ cuts part [] whole ∙ ap (λ (t : List ℕ). t ∷ []) (append-nil part)
    number_parts (Some rest) is = ap name_parts is ∙ cuts part (dot ∷ rest) whole ∙ ap (λ (t : List ℕ). t ∷ name_parts rest) (append-nil part)

pub number_further : (tree : Contents) (o text : List ℕ) (n : ℕ) (after : Option (List ℕ)) → IsPartRead text (Some n) after
    → further_meaning tree o (name_parts text)
    ≡ and_then (fitting (o ++ n ∷ [])) (λ p. further_meaning tree p (parts_left after))
number_further tree o text n after h = number_next tree (oid_of_child tree o) o text h.part n after h.read h.parts
