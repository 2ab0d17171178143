use Rattle.std.proofs.Common.{List, ℕ, length, ◌+◌, ◌≡◌, ◌++◌, take, drop}
use Rattle.std.specs.Option.{option_map_or}
use Rattle.snmp_agent.specs.{table.Entries.last_name, table.Pages.entries_in, table.Pages.entries_of}
use Rattle.snmp_agent.proofs.table.pages.Successors.skip_rows.Given as goal

abbrev pub invariant-pages : goal.invariant-pages
invariant-pages l = record {
  left : drop l.left (entries_of l.self-inside.rows.now ++ entries_in l.self-inside.pages.now) ≡ drop l.count l.fn.self;
  last : (o : List ℕ) → last_name (option_map_or (λ row. row.now.name) l.last o)
      (take l.left (entries_of l.self-inside.rows.now ++ entries_in l.self-inside.pages.now)) ≡ last_name o (take l.count l.fn.self);
}

abbrev pub decreases-pages : goal.decreases-pages
decreases-pages l = length l.self-inside.pages.now + l.left
