use Rattle.std.proofs.Common.{◌++◌, codes, refl, sym, subst}
use Rattle.std.specs.Option.{option_copied}
use Rattle.smi_value.specs.{Pieces.type_word, Value.ShowsValue}
use Rattle.snmp_wire.specs.{ber.Value.datum, declared.ber.value.ValueRef.ValueRef}
use Rattle.smi_show.specs.Line.{names_by}
use Rattle.smi_show.proofs.Texts.{adds_both}
use Rattle.smi_show.proofs.binding.append_shown.Goals as goal

pub returns-in-ObjectId : goal.returns-in-ObjectId
returns-in-ObjectId c =
    let letters = c.args.letters.now in
    let names = names_by c.args.tree.now letters in
    let word = type_word letters (codes "OID: ") in
    let text = word ++ names c.in-ObjectId.oid in
    let P : ValueRef → Type 0 = λ v. ShowsValue names letters (option_copied c.args.syntax) (datum v) text in (
      text,
      subst P (sym c.in-ObjectId.is) refl,
      adds_both c.args.draft.now c.append_identifier_word.new.draft c.name_text.new.draft word (names c.in-ObjectId.oid)
          c.append_identifier_word.ensures c.name_text.ensures,
    )
