use Rattle.snmp_tools.proofs.TableNames.{prefix_named, prefix_unnamed}
use Rattle.snmp_tools.proofs.table_names.TreeNamesResolver.leading_name.Goals as goal

pub returns-in-Ok : goal.returns-in-Ok
returns-in-Ok c =
    let tree = c.args.self.now.tree.now in
    prefix_named c.one_meaning.ensures.only tree (c.names_are_meant.ensures tree) c.args.text.now
    c.resolve_front_into.new.oid c.in-Ok.size c.as_slice.ensures.is_identifier c.in-Ok.ensures

pub returns-in-Err : goal.returns-in-Err
returns-in-Err c =
    let tree = c.args.self.now.tree.now in
    prefix_unnamed c.one_meaning.ensures.only tree (c.names_are_meant.ensures tree) c.args.text.now
    c.in-Err.field-0 c.in-Err.ensures
