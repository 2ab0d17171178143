-- If no numbers are appended, the list stays as it is, and the result is the index of the identifier itself.
use Rattle.std.proofs.Common.{rules, ◌≡◌, [], length, get_or, sym, ◌∙◌}
use Rattle.std.proofs.lemmas.List.{append-nil, get_or_default, nil_from_length}
use Rattle.smi_names.specs.chains.Resolution.{resolution_at}
use Rattle.smi_names.specs.declared.chains.shared.Resolution.TheVariants as R
use Rattle.smi_names.proofs.SharedResolutions.{followed_by_none}
use Rattle.smi_names.proofs.chains.shared.extend_resolution.Goals as goal

pub returns-then-is_empty : goal.returns-then-is_empty
returns-then-is_empty c =
    let none : length c.args.numbers.now ≡ 0 = search rules in
    let is : c.index.result.now ≡ R.Numbers c.in-Numbers.oid = search rules in
    let at : get_or c.args.list.now.items c.args.at c.index.result.now ≡ c.index.result.now = search rules in
    let there : resolution_at c.args.list.now.items c.args.at ≡ R.Numbers c.in-Numbers.oid =
    get_or_default c.args.list.now.items c.args.at R.Unresolved c.index.result.now c.requires.inside ∙ at ∙ is in
    record {
      grown = record {
        added = [];
        grown = sym (append-nil c.args.list.now.items);
        inside = c.requires.inside;
        there = rw (nil_from_length c.args.numbers.now none, there) (sym (followed_by_none c.in-Numbers.oid c.as_slice-prefix.ensures.at_most_128));
      };
    }
