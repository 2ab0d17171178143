-- A walk of a table file in numbers prints the lines that `PrintsRows` says (`prints_rows`). If snmpd serves the file, the walk asks for the rows that
-- `IsAskInNumbers` says (`asked_in_numbers`).
use Rattle.std.proofs.{lemmas.Grind.common_steps, lemmas.List.Concat.flat_map-append, lemmas.List.Kept.AllPairs-cons}
use Rattle.std.proofs.Common.{◌≡◌, ◌≢◌, ◌⊎◌, inl, inr, refl, sym, ◌∙◌, subst, ℕ, zero, suc, ◌+◌, ◌<◌, ◌≤◌, Bool, false, List, [], ◌∷◌, ◌↔◌, ◌++◌, ap}
use Rattle.std.proofs.Common.{length, None, Ok, Option, Some, arith, append-nil, append_assoc}
use Rattle.std.specs.Prelude.{AllPairs, Contains, codes, drop, filter, not, slice_index_or}
use Rattle.std.specs.{List.flat_map, FinMap.get, Str.Lines.lines}
use Rattle.std.proofs.lemmas.List.Filters.{length-filter_both}
use Rattle.snmp_oid.specs.{Identifier.IsBelow, Identifier.IsIdentifier, Identifier.IsWire, Identifier.Precedes, Identifier.wire, Numeric.numeric_text}
use Rattle.snmp_wire.specs.Message.{VarBind}
use Rattle.snmp_agent.specs.{table.Exact.HasOne, table.Listing.variables, table.Format.IsMarked, table.Format.first_format, table.Text.HasRow}
use Rattle.snmp_agent.specs.table.Stated.{AreTableBy, IsTableIn, IsTableOf}
use Rattle.snmp_agent.specs.table.Table as table
use Rattle.snmp_agent.specs.table.Table.{IsGet, IsMibView, IsRow, MibView}
use Rattle.snmp_walk.specs.{Link.Agents, Link.OneOf, Ordered.AreOrdered, Room.HasRoomForEach, Room.IsShort, WalkState.WalkState}
use Rattle.snmp_walk.specs.Walk.{or_only, rest_of, rows_below}
use Rattle.snmp_walk.specs.declared.mode.Method.TheVariants as method
use Rattle.snmp_walk.specs.declared.mode.Mode.TheVariants as mode
use Rattle.smi_show.specs.{name.Meant.TextMeans}
use Rattle.smi_tree.specs.{Bare.bare, Tree.IsTree}
use Rattle.snmp_io.specs.{Files.Holdings, Count.HasIncreased, Output.IsWritten, Output.Stream, Output.TakesPrefix, Output.stream_after}
use Rattle.snmp_io.specs.{Streams.stream_after-nil}
use Rattle.snmp_net.specs.Address.{Address, IsAgent, udp, table as table_at}
use Rattle.snmp_words.specs.Words.{ServeWords, StateJob, WalkWords, snmpd, walk_line}
use Rattle.snmp_tools.specs.{serve.TableFile.names_in, serve.TableFile.AreNamesIn, Headline.IsAsk, Headline.IsMishap, Headline.WritesRowsOf}
use Rattle.snmp_tools.specs.{Lines.AreLines, private.Planned.numeric_walk, RowText.row_line, Letters.HaveChosen, Letters.no_choices}
use Rattle.snmp_tools.specs.{Answer.IsFeasible, Answer.agent_over, Answer.first_of, Asking.AreShown, Asking.IsOptionalName}
use Rattle.snmp_tools.specs.Question.{AskFor, Plan, Walk, of_walk, root_text, subtree}
use Rattle.snmp_tools.specs.BothEnds.{IsAskInNumbers, IsWalkInNumbers}
use Rattle.snmp_tools.specs.TableWalk as page
use Rattle.snmp_tools.specs.TableWalk.{AreRowsBelow, AreWalked, HoldsTableFile, IsGot, PrintsRows, table_walk}
use Rattle.snmp_tools.proofs.BareNames.{bare_has_no_syntax, bare_is_loaded}
use Rattle.smi_tree.specs.{Tree.Contents}
use Rattle.snmp_tools.proofs.RowLines.{HasNoSyntax, lines_are, numeric_are, numeric_letters}

-- ---- the arguments

-- an identifier in numbers begins with a dot
begins_with_dot : (o : List ℕ) → codes "." ++ drop 1 (numeric_text o) ≡ numeric_text o
begins_with_dot [] = refl
begins_with_dot (n ∷ more) = refl

pub words_are : (path root : List ℕ) → table_walk path root ≡ walk_line path (drop 1 (numeric_text root))
words_are path root = grind (arith, common_steps, begins_with_dot)

abbrev plain_walk : (root : List ℕ) → Walk
plain_walk root = record { root = root; after = None; mode = mode.Plain; method = method.Next; counts = false }

abbrev walk_plan : WalkWords → (root : List ℕ) → Address → Plan
walk_plan words root agent = record {
  agent = agent;
  community = words.asking.community;
  max_size = words.asking.max_size;
  letters = numeric_letters;
  question = subtree (plain_walk root);
}

-- the plan of a walk of a table file
abbrev file_plan : (path root : List ℕ) → Plan
file_plan path root = walk_plan (numeric_walk path root) root (table_at path)

-- an identifier in numbers means itself
abbrev pub NumbersAreRead : Type 0
NumbersAreRead = (tree : Contents) (o : List ℕ) → IsIdentifier o → TextMeans tree (numeric_text o) (Ok o)

-- without letters of -C, the choices are the defaults
nothing_chosen : HaveChosen false [] no_choices
nothing_chosen = grind (arith, common_steps)

words_ask : NumbersAreRead → (words : WalkWords) (root : List ℕ) (agent : Address) → words.asking.protocol ≡ codes "2c" → words.asking.letters ≡ codes "n"
    → length words.asking.community ≤ 255 → IsAgent words.asking.agent agent → words.letters ≡ [] → words.after ≡ None
    → words.name ≡ Some (numeric_text root) → IsIdentifier root → AskFor (of_walk false words) bare (walk_plan words root agent)
words_ask read words root agent version numeric short is none whole from identifier = record {
  version = version;
  letters = subst (λ (t : List ℕ). AreShown t numeric_letters) (sym numeric) (record { known = refl; read = numeric_are });
  choices = no_choices;
  chosen = subst (λ (t : List ℕ). HaveChosen false t no_choices) (sym none) nothing_chosen;
  short_community = short;
  community = refl;
  max_size = refl;
  agent = is;
  question = record {
    mode = refl;
    method = refl;
    counts = refl;
    root = subst (λ (n : Option (List ℕ)). TextMeans bare (root_text n) (Ok root)) (sym from) (read bare root identifier);
    goes_on = subst (λ (a : Option (List ℕ)). IsOptionalName bare a None) (sym whole) refl;
  };
}

-- ---- the rows

contained_is_one : (rows : List VarBind) (row : VarBind) → Contains rows row → OneOf rows row
contained_is_one [] row (k, within, at) = absurd (omega arith)
contained_is_one (first ∷ more) row (zero, within, at) = inl (sym at)
contained_is_one (first ∷ more) row (suc k, within, at) = inr (contained_is_one more row (k, omega arith, at))

pub one_is_contained : (rows : List VarBind) (row : VarBind) → OneOf rows row → Contains rows row
one_is_contained [] row none = absurd none
one_is_contained (first ∷ more) row (inl e) = (0, omega arith, sym e)
one_is_contained (first ∷ more) row (inr one) =
    let at = one_is_contained more row one in
    (suc at.0, omega arith, at.2)

each_one : (P : VarBind → Type 0) (rows : List VarBind) → ((row : VarBind) → OneOf rows row → P row)
    → (k : ℕ) (d : VarBind) → k < length rows → P (slice_index_or rows k d)
each_one P [] each k d within = absurd (omega arith)
each_one P (row ∷ more) each zero d within = each row (inl refl)
each_one P (row ∷ more) each (suc k) d within = each_one P more (λ other one. each other (inr one)) k d (omega arith)

pairs_ordered : (rows : List VarBind) → AreOrdered rows → AllPairs (λ row later. Precedes row.name later.name) rows
pairs_ordered [] ordered = λ i j d before within. absurd (omega arith)
pairs_ordered (row ∷ more) ordered =
    AllPairs-cons (λ r later. Precedes r.name later.name) row more
    (each_one (λ later. Precedes row.name later.name) more ordered.0) (pairs_ordered more ordered.1)

free_name : (ls : List (List ℕ)) (view : MibView) (o : List ℕ) → IsTableIn first_format ls view → get view.rows o ≡ None
    → (row : VarBind) → HasRow first_format ls row → row.name ≢ o
free_name ls view o is none row has same = grind (arith, common_steps)

got_is : (ls : List (List ℕ)) (view : MibView) (o : List ℕ) (got : VarBind) → IsTableIn first_format ls view → IsGet view o got → IsGot ls o got
got_is ls view o got is (table.variable e row) = page.variable e ((is.rows got).0 row)
got_is ls view o got is (table.unknown_object none lacks e) = page.unknown_object (free_name ls view o is none)
    (λ object rest has parts. lacks (object, rest, (is.objects object).1 has, parts)) e
got_is ls view o got is (table.unknown_instance none (object, rest, has, parts) e) =
    page.unknown_instance (free_name ls view o is none) object rest ((is.objects object).0 has) parts e

-- for a MIB view, `rows_below` has exactly the rows that are below the root
abbrev pub BelowAreRows : Type 0
BelowAreRows = (view : MibView) (root : List ℕ) (p : VarBind) → IsMibView view
    → (OneOf (rows_below root (variables view)) p → IsRow view p × IsBelow p.name root)
    × (IsRow view p × IsBelow p.name root → OneOf (rows_below root (variables view)) p)

rows_are : (ls : List (List ℕ)) (view : MibView) (root : List ℕ) → IsTableIn first_format ls view → IsMibView view → BelowAreRows
    → AreOrdered (rows_below root (variables view)) → AreRowsBelow ls root (rows_below root (variables view))
rows_are ls view root is is_view law ordered = record {
  ordered = pairs_ordered (rows_below root (variables view)) ordered;
  exact = λ row. (
    λ has. (
        let both = (law view root row is_view).0 (contained_is_one (rows_below root (variables view)) row has) in
        ((is.rows row).0 both.0, both.1)
        ),
    λ has. one_is_contained (rows_below root (variables view)) row ((law view root row is_view).1 ((is.rows row).1 has.0, has.1)),
  );
}

are_walked : (ls : List (List ℕ)) (root : List ℕ) (got : VarBind) (rows : List VarBind) → AreRowsBelow ls root rows → IsGot ls root got
    → AreWalked ls root (or_only got rows)
are_walked ls root got [] are is_got = page.none_below got are is_got refl
are_walked ls root got (row ∷ more) are is_got = page.below (λ e. cc) are

-- ---- what is written

-- if no object has a syntax, and a prefix of the lines of the first rows, or of all rows, was written, then a prefix of the lines that `row_line` defines for
-- all rows was written
prefix_is : (mib : Contents) (before after : Stream) (rows first rest : List VarBind) (text : List ℕ) → HasNoSyntax mib → rows ≡ first ++ rest
    → AreLines mib numeric_letters first text ⊎ ((shown : List ℕ) × AreLines mib numeric_letters rows shown × (text ≡ shown ++ []))
    → TakesPrefix before text after → TakesPrefix before (flat_map row_line rows) after
prefix_is mib before after rows first rest text none parts (inl are) taken = grind (arith, common_steps, flat_map-append, lines_are, append_assoc)
prefix_is mib before after rows first rest text none parts (inr (shown, are, whole)) taken = grind (arith, common_steps, append-nil, lines_are)

all_are : (mib : Contents) (before after : Stream) (rows : List VarBind) (text : List ℕ) → HasNoSyntax mib
    → ((shown : List ℕ) × AreLines mib numeric_letters rows shown × (text ≡ shown ++ [])) → after ≡ stream_after before text
    → after ≡ stream_after before (flat_map row_line rows)
all_are mib before after rows text none (shown, are, whole) written = grind (arith, common_steps, append-nil, lines_are)

-- if an output is unchanged, or an empty text was written to it, then an empty text was written to it as `IsWritten` says
no_warnings : (before now : Stream) → (now ≡ before) ⊎ IsWritten before [] now → IsWritten before [] now
no_warnings before now (inl same) = inl (same ∙ sym (stream_after-nil before))
no_warnings before now (inr written) = written

mishap_is : (before after err_before err_after : Stream) (status : ℕ) → (status ≡ 0) ⊎ IsMishap [] before after err_before err_after status
    → (status ≡ 0) ⊎ ((status ≡ 1) × (HasIncreased before.faults after.faults
    ⊎ ((now : Stream) × IsWritten err_before [] now × IsWritten now (codes "Out of memory.\n") err_after)))
mishap_is before after err_before err_after status (inl zero_status) = inl zero_status
mishap_is before after err_before err_after status (inr (one, inl risen)) = inr (one, inl risen)
mishap_is before after err_before err_after status (inr (one, inr (now, was_reported, same))) = grind (arith, common_steps, no_warnings)

-- ---- what the walk needs

wire_is : (o : List ℕ) → IsWire o → wire o ≡ o
wire_is [] h = absurd h
wire_is (x ∷ []) h = absurd h
wire_is (x ∷ y ∷ more) h = refl

filter_is_short : (test : VarBind → Bool) (rows : List VarBind) → length (filter test rows) ≤ length rows
filter_is_short test rows = omega (arith, length-filter_both test (λ row. not (test row)) (λ row. refl) rows)

only_is_long : (got : VarBind) (rows : List VarBind) → length rows ≤ length (or_only got rows)
only_is_long got [] = omega arith
only_is_long got (row ∷ more) = omega arith

-- if strings are short, the community has at most 30 octets, and messages may have 1472 octets, then there is room for each row
abbrev pub ShortHaveRoom : Type 0
ShortHaveRoom = (agents : Agents) (view : MibView) (first : WalkState) → first.community ≡ agents.community → length agents.community ≤ 30
    → 1472 ≤ agents.max_size → length first.asked ≤ 128 → IsMibView view → ((p : VarBind) → IsRow view p → IsShort p.value)
    → HasRoomForEach agents view first

ids_are : (root : List ℕ) (got : VarBind) (vars : List VarBind) → length (or_only got (rows_below root vars)) ≤ 2147483644
    → 1 + length (rest_of root (wire root) vars) + 2 ≤ 2147483647
ids_are root got vars few = grind (arith, common_steps, filter_is_short, only_is_long)

asked_short : (root : List ℕ) → IsIdentifier root → IsWire root → length (wire root) ≤ 128
asked_short root identifier sendable = subst (λ (o : List ℕ). length o ≤ 128) (sym (wire_is root sendable)) identifier.short

feasible : (ls : List (List ℕ)) (path root : List ℕ) (view : MibView) (got : VarBind) → IsIdentifier root → IsWire root → IsTableIn first_format ls view
    → IsMibView view → ShortHaveRoom → ((row : VarBind) → HasRow first_format ls row → IsShort row.value)
    → length (or_only got (rows_below root (variables view))) ≤ 2147483644 → IsFeasible (file_plan path root) view
feasible ls path root view got identifier sendable is is_view room short few = record {
  sendable = (subst IsWire (sym (wire_is root sendable)) sendable, tt);
  room = (
    room (agent_over (file_plan path root) view) view (first_of (codes "public") (plain_walk root)) refl (omega arith) (omega arith)
        (asked_short root identifier sendable) is_view (λ p row. short p ((is.rows p).0 row)),
    ids_are root got (variables view) few,
  );
}

-- ---- the walk

-- the table that lines define, and what a walk of it returns
record Walked (ls : List (List ℕ)) (root : List ℕ) : Type 0 where
  view : MibView
  by_names : IsTableOf (names_in bare) ls view
  in_lines : IsTableIn first_format ls view
  is_view : IsMibView view
  got : VarBind
  is_got : IsGet view (wire root) got
  gives : AreWalked ls root (or_only got (rows_below root (variables view)))

module _ (loads : IsTree [] bare []) (read : NumbersAreRead) (named : AreNamesIn bare (names_in bare)) (law : BelowAreRows)
    (ordered : (view : MibView) (root : List ℕ) → IsMibView view → AreOrdered (rows_below root (variables view)))
    (one_get : (view : MibView) (o : List ℕ) → HasOne (IsGet view o))
    (tables : (ls : List (List ℕ)) → AreTableBy (names_in bare) ls
    → (view : MibView) × IsTableOf (names_in bare) ls view × IsMibView view)
    (plain : (ls : List (List ℕ)) (view : MibView) → (IsMarked ls → ⊥) → (IsTableOf (names_in bare) ls view ↔ IsTableIn first_format ls view)) where
  walked : (files : Holdings) (path root text : List ℕ) → HoldsTableFile files path root text → Walked (lines text) root
  walked files path root text holds =
      let stated = tables (lines text) (first_format, holds.unmarked, holds.table) in
      let view : MibView = stated.0 in
      let is : IsTableIn first_format (lines text) view = (plain (lines text) view holds.unmarked).0 stated.1 in
      let one = one_get view (wire root) in
      let got_root : IsGet view root one.0 = subst (λ (o : List ℕ). IsGet view o one.0) (wire_is root holds.sendable) one.1 in
      record {
        view = view;
        by_names = stated.1;
        in_lines = is;
        is_view = stated.2;
        got = one.0;
        is_got = one.1;
        gives = are_walked (lines text) root one.0 (rows_below root (variables view))
            (rows_are (lines text) view root is stated.2 law (ordered view root stated.2)) (got_is (lines text) view root one.0 is got_root);
      }

  pub prints_rows : ShortHaveRoom → (files : Holdings) (path root text : List ℕ) (before after err_before err_after : Stream) (status : ℕ)
      → HoldsTableFile files path root text
      → WritesRowsOf (of_walk false (numeric_walk path root)) files before after err_before err_after status
      → PrintsRows (lines text) root before after err_before err_after status
  prints_rows room files path root text before after err_before err_after status holds writes =
      let w : Walked (lines text) root = walked files path root text holds in
      let rows : List VarBind = or_only w.got (rows_below root (variables w.view)) in
      let ask : IsAsk (of_walk false (numeric_walk path root)) files rows = record {
        mib = bare;
        warnings = [];
        known = bare_is_loaded loads files [] refl;
        plan = file_plan path root;
        asked = words_ask read (numeric_walk path root) root (table_at path) refl refl (omega arith) (holds.named, refl) refl refl
            (ap Some (begins_with_dot root)) holds.identifier;
        path = path;
        over = refl;
        text = text;
        held = holds.held;
        view = w.view;
        names = names_in bare;
        named = named;
        table = w.by_names;
        are_rows = (w.got, w.is_got, refl);
      } in
      let written = writes rows ask in
      let first = written.prefix_written in
      record {
        rows = rows;
        are_walked = w.gives;
        prefix = prefix_is bare before after rows first.0 first.1 first.2 bare_has_no_syntax first.3 first.4 first.5;
        all = λ zero_status. (
            let whole = written.all_written_at_status_0 zero_status in
            all_are bare before after rows whole.0 bare_has_no_syntax whole.1 whole.2
            );
        ends = λ short few. mishap_is before after err_before err_after status
            (written.ends_at_status_0 (feasible (lines text) path root w.view w.got holds.identifier holds.sendable w.in_lines w.is_view room short few));
      }

  -- if snmpd serves the table file to a walk in numbers, then the walk asks for the rows that `IsAskInNumbers` says
  pub asked_in_numbers : (words : WalkWords) (files : Holdings) (serving : ServeWords) (server_files : Holdings) (line : List (List ℕ)) (root text : List ℕ)
      → IsWalkInNumbers words root → StateJob line (snmpd serving) → serving.mibs ≡ [] → HoldsTableFile server_files serving.table root text
      → IsAskInNumbers words files serving server_files (lines text) root
  asked_in_numbers words files serving server_files line root text is stated no_modules holds =
      let w : Walked (lines text) root = walked server_files serving.table root text holds in
      let rows : List VarBind = or_only w.got (rows_below root (variables w.view)) in
      record {
        rows = rows;
        are_walked = w.gives;
        ask = record {
          mib = bare;
          warnings = [];
          known = bare_is_loaded loads files words.asking.mibs is.no_modules;
          plan = walk_plan words root (udp is.host is.port);
          asked = words_ask read words root (udp is.host is.port) is.version is.numeric is.short_community is.agent is.no_choices is.whole is.from
              holds.identifier;
          host = is.host;
          port = is.port;
          over = refl;
          line = line;
          stated = stated;
          nodes = bare;
          node_warnings = [];
          nodes_known = bare_is_loaded loads server_files serving.mibs no_modules;
          text = text;
          held = holds.held;
          view = w.view;
          names = names_in bare;
          named = named;
          table = w.by_names;
          are_rows = (w.got, w.is_got, refl);
        };
        prefix = λ before after p. prefix_is bare before after rows p.0 p.1 p.2 bare_has_no_syntax p.3 p.4 p.5;
        all = λ before after p. all_are bare before after rows p.0 bare_has_no_syntax p.1 p.2;
      }
