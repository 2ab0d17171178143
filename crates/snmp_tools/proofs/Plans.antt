-- Arguments ask for at most one plan (`one_plan`). If they ask for a plan over a table file whose text is known, then the steps before its question is asked
-- fail only because memory ran out (`wants_early`, `wants_late` and, if the question can be sent, `wants_last`).
use Rattle.std.proofs.{lemmas.Grind.common_steps, lemmas.List.Elements.All-head, lemmas.List.Elements.All-tail}
use Rattle.std.proofs.Common.{◌≡◌, ◌⊎◌, inl, inr, ℕ, arith, List, [], ◌∷◌, All, map, Option, Some, None, Ok, refl, sym, ◌∙◌, ap, subst}
use Rattle.std.specs.Str.Lines.{lines}
use Rattle.smi_value.specs.{declared.letters.Letters.Letters, Letters.AreLetters}
use Rattle.smi_show.specs.name.Meant.{TextMeans}
use Rattle.snmp_oid.specs.Identifier.{IsWire, wire}
use Rattle.snmp_wire.specs.Message.{VarBind}
use Rattle.snmp_agent.specs.{table.Table.MibView, table.Format.Names, table.Stated.IsTableOf, table.Stated.IsFirstFault}
use Rattle.snmp_agent.specs.declared.table.error.TableError.{TableError}
use Rattle.snmp_agent.specs.declared.table.error.TableError.TheVariants as table_error
use Rattle.snmp_io.specs.{Files.Holdings, Files.Holds, Files.HoldsIfKnown, Files.MayHold, Steps.AreDone, Steps.IsFirstToFail}
use Rattle.snmp_net.specs.Address.{Address, table}
use Rattle.snmp_tools.specs.{serve.TableFile.TableFails, Answer.CanBeSent, Answer.CanGoOn, Headline.IsAsk, Letters.Choices, FaultText.Fault}
use Rattle.snmp_tools.specs.{FaultText.bad_table, FaultText.out_of_memory, load.Files.AreModulesOf, load.Loaded.AreLoaded}
use Rattle.snmp_tools.specs.Asking.{AskingFails, AskingStep, HasAgent, IsOptionalName, ReachFails, agent_step, community_step, letters_step}
use Rattle.snmp_tools.specs.Asking.{version_step}
use Rattle.smi_text.specs.declared.trees.tree.Module.{Module}
use Rattle.smi_names.specs.declared.nodes.warning.Warning.{Warning}
use Rattle.smi_tree.specs.Tree.{Contents, IsTree}
use Rattle.snmp_walk.specs.Ordered.{IsAtOrBelow}
use Rattle.snmp_tools.specs.Question.{AreNames, AskFor, AskWords, FailsBy, FailsFor, IsDoneBy, IsEarlyRefusal, IsLastRefusal, IsLateRefusal}
use Rattle.snmp_tools.specs.Question.{IsQuestionOf, LaterStep, LoadingStep, Plan, Question, Request, HasChosen, HasUnknown, goes_on_after, root_text}
use Rattle.snmp_tools.specs.Question.{asking, choices_step, mibs_step, get, names, subtree, walk, name_steps, reaching_steps, sent_steps, below_step}
use Rattle.snmp_tools.specs.Question.{name_step, reach_step, sent_step}
use Rattle.snmp_tools.proofs.ChosenLetters.{among, both, no_choice, one_choice}
use Rattle.snmp_tools.proofs.{Steps.each_name, TableNames.OneMeaning, TableNames.no_name, TableNames.one_look_up, TableNames.one_name}

pub held_is : (held : Option (Option (List ℕ))) (text other : List ℕ) → HoldsIfKnown held (Some text) → held ≡ Some (Some other) → text ≡ other
held_is None text other h e = let no : ⊥ = cc in absurd no
held_is (Some x) text other h e = cc

-- if a file is known to hold a text, it can't be that it holds none
pub is_readable : (text : List ℕ) (held : Option (Option (List ℕ))) → held ≡ Some (Some text) → HoldsIfKnown held None → ⊥
is_readable text None e k = let no : ⊥ = cc in no
is_readable text (Some x) e k = let no : ⊥ = cc in no

pub one_path : (a b : List ℕ) → table a ≡ table b → a ≡ b
one_path a b e = cc

abbrev pub OneList : Type 0
OneList = (files : Holdings) (paths : List (List ℕ)) (ms ns : List Module) → AreModulesOf (Holds files) paths ms → AreModulesOf (MayHold files) paths ns
    → ms ≡ ns

abbrev pub OneTree : Type 0
OneTree = (modules : List Module) (t u : Contents) (v w : List Warning) → IsTree modules t v → IsTree modules u w → (t ≡ u) × (v ≡ w)

-- if it is known what the module files hold, they have one tree and one list of warnings
pub one_load : OneList → OneTree → (files : Holdings) (paths : List (List ℕ)) (a b : Contents) (v w : List Warning)
    → AreLoaded (Holds files) paths a v → AreLoaded (MayHold files) paths b w → (a ≡ b) × (v ≡ w)
one_load one_list one_tree files paths a b v w e f =
    let same : e.modules ≡ f.modules = one_list files paths e.modules f.modules e.read f.read in
    one_tree f.modules a b v w (subst (λ (ms : List Module). IsTree ms a v) same e.loads) f.loads

-- an argument of -O says at most one thing: if it says `a` and `b`, they are equal
pub one_reading : (text : List ℕ) (a b : Letters) → AreLetters text a → AreLetters text b → a ≡ b
one_reading text a b p q = grind (arith, common_steps)

one_chosen : (request : Request) (a b : Choices) → HasChosen request a → HasChosen request b → a ≡ b
one_chosen (get texts) a b h k = h ∙ sym k
one_chosen (walk bulk letters after name) a b h k = one_choice bulk letters a b h k

no_chosen : (request : Request) (a : Choices) (octet : ℕ) → HasChosen request a → HasUnknown request octet → ⊥
no_chosen (get texts) a octet h k = k
no_chosen (walk bulk letters after name) a octet h k = no_choice bulk letters a octet h k

one_after : OneMeaning → (mib : Contents) (text a b : Option (List ℕ)) → IsOptionalName mib text a → IsOptionalName mib text b → a ≡ b
one_after one mib None a b e f = e ∙ sym f
one_after one mib (Some text) a b e f = e.2 ∙ ap Some (one_name one mib text e.0 f.0 e.1 f.1) ∙ sym f.2

-- texts mean at most one list of identifiers
pub one_names : OneMeaning → (mib : Contents) (texts a b : List (List ℕ)) → AreNames mib texts a → AreNames mib texts b → a ≡ b
one_names one mib [] [] [] e f = refl
one_names one mib [] [] (y ∷ b) e f = absurd f
one_names one mib [] (x ∷ a) b e f = absurd e
one_names one mib (text ∷ texts) [] b e f = absurd e
one_names one mib (text ∷ texts) (x ∷ a) [] e f = absurd f
one_names one mib (text ∷ texts) (x ∷ a) (y ∷ b) e f =
    ap (λ (n : List ℕ). n ∷ a) (one_name one mib text x y e.0 f.0) ∙ ap (λ (ns : List (List ℕ)). y ∷ ns) (one_names one mib texts a b e.1 f.1)

-- a request asks at most one question
one_question : OneMeaning → (request : Request) (choices : Choices) (mib : Contents) (a b : Question)
    → IsQuestionOf request choices mib a → IsQuestionOf request choices mib b → a ≡ b
one_question one (get texts) choices mib (names a) (names b) p q = ap names (one_names one mib texts a b p q)
one_question one (get texts) choices mib (names a) (subtree w) p q = absurd q
one_question one (get texts) choices mib (subtree v) b p q = absurd p
one_question one (walk bulk letters after name) choices mib (names a) b p q = absurd p
one_question one (walk bulk letters after name) choices mib (subtree v) (names b) p q = absurd q
one_question one (walk bulk letters after name) choices mib (subtree v) (subtree w) p q =
    let root = one_name one mib (root_text name) v.root w.root p.root q.root in
    let goes_on = one_after one mib after v.after w.after p.goes_on q.goes_on in
    grind (arith, common_steps, p.mode, q.mode, p.method, q.method, p.counts, q.counts)

-- if AGENT says only one address, then arguments ask for at most one plan, with their names looked up in `mib`: a clause determines each field
pub one_plan : OneMeaning → (words : AskWords) (mib : Contents) (p q : Plan) → AskFor words mib p → AskFor words mib q
    → HasAgent words.asking.agent q.agent → p ≡ q
one_plan one words mib p q a b only = grind (arith, common_steps, one_chosen, one_question, one_reading)

-- the fault `why` is that memory ran out, perhaps while a table file was read
pub data IsWant (why : Fault) : Type 0 where
  plain_want : why ≡ out_of_memory → IsWant why
  table_want : (path : List ℕ) → why ≡ bad_table path table_error.Memory → IsWant why

module _ (one : OneMeaning)
    (no_fault : (names : Names) (ls : List (List ℕ)) (view : MibView) (fault : TableError) → IsTableOf names ls view → IsFirstFault names ls fault
    → fault ≡ table_error.Memory)
    (words : AskWords) (files : Holdings) (rows : List VarBind) (ask : IsAsk words files rows) (why : Fault) where
  agent_is : (agent : Address) → HasAgent words.asking.agent agent → agent ≡ table ask.path
  agent_is agent has = sym (has.1 ask.plan.agent ask.asked.agent) ∙ ask.over

  table_want_only : TableFails files ask.mib ask.path why → IsWant why
  table_want_only (inl f) = absurd (is_readable ask.text (files ask.path) ask.held f.0)
  table_want_only (inr f) =
      let same : f.2 ≡ ask.text = held_is (files ask.path) f.2 ask.text f.4 ask.held in
      let names : f.0 ≡ ask.names = one_look_up ask.mib f.0 ask.names f.1 ask.named in
      let memory : f.3 ≡ table_error.Memory =
      no_fault ask.names (lines ask.text) ask.view f.3 ask.table
      (subst (λ (n : Names). IsFirstFault n (lines ask.text) f.3) names (subst (λ (t : List ℕ). IsFirstFault f.0 (lines t) f.3) same f.5)) in
      table_want ask.path (f.6 ∙ ap (bad_table ask.path) memory)

  no_asking_failure : (step : AskingStep) → AskingFails words.asking step why → ⊥
  no_asking_failure version_step f = f.0 ask.asked.version
  no_asking_failure letters_step f = let e = ask.asked.letters.known in let g = f.1 in cc
  no_asking_failure community_step f = omega (arith, f.0, ask.asked.short_community)
  no_asking_failure agent_step f = f.0 ask.plan.agent ask.asked.agent

  -- no step up to loading the modules fails, since the arguments ask for a plan (`ask`)
  no_loading_failure : (step : LoadingStep) → FailsFor words files step why → ⊥
  no_loading_failure (asking step) f = no_asking_failure step f
  no_loading_failure choices_step f = no_chosen words.request ask.asked.choices f.0 ask.asked.chosen f.1
  no_loading_failure mibs_step f = f.3 ask.known.modules ask.known.read

  -- if the step fails, `why` is that memory ran out
  abbrev Wants : LaterStep → Type 0
  Wants step = FailsBy words files ask.mib step why → IsWant why

  -- the step of a name that means an identifier doesn't fail
  name_want : (text o : List ℕ) → TextMeans ask.mib text (Ok o) → Wants (name_step text)
  name_want text o means f = absurd (no_name one ask.mib text o f.0 means f.1)

  sent_want : (text o : List ℕ) → TextMeans ask.mib text (Ok o) → IsWire (wire o) → Wants (sent_step text)
  sent_want text o means sent f =
      absurd (f.2 (subst (λ (n : List ℕ). IsWire (wire n)) (one_name one ask.mib text o f.0 means f.1) sent))

  below_want : (root_text text root o : List ℕ) → TextMeans ask.mib root_text (Ok root) → TextMeans ask.mib text (Ok o) → IsAtOrBelow o root
      → Wants (below_step root_text text)
  below_want root_text text root o root_means means at f =
      absurd (f.4.0 (subst (λ (a : List ℕ). IsAtOrBelow a f.0) (one_name one ask.mib text o f.1 means f.3)
      (subst (IsAtOrBelow o) (one_name one ask.mib root_text root f.0 root_means f.2) at)))

  all_sent : (texts os : List (List ℕ)) → AreNames ask.mib texts os → All (λ o. IsWire (wire o)) os → AreDone Wants (map sent_step texts)
  all_sent [] os e sent = tt
  all_sent (text ∷ texts) [] e sent = absurd e
  all_sent (text ∷ texts) (o ∷ os) e sent =
      (sent_want text o e.0 (All-head (λ n. IsWire (wire n)) o os sent), all_sent texts os e.1 (All-tail (λ n. IsWire (wire n)) o os sent))

  after_sent : (text root : List ℕ) (given planned : Option (List ℕ)) → TextMeans ask.mib text (Ok root) → IsOptionalName ask.mib given planned
      → CanGoOn root planned → AreDone Wants (goes_on_after (λ t. below_step text t ∷ sent_step t ∷ []) given)
  after_sent text root None planned means h can = tt
  after_sent text root (Some t) planned means h can =
      let go = subst (CanGoOn root) h.2 can in
      (below_want text t root h.0 means h.1 go.0, (sent_want t h.0 h.1 go.1, tt))

  sending_want : (request : Request) (choices : Choices) (question : Question) → IsQuestionOf request choices ask.mib question → CanBeSent question
      → AreDone Wants (sent_steps request)
  sending_want (get texts) choices (names os) q can = all_sent texts os q can
  sending_want (walk bulk letters after name) choices (subtree w) q can =
      (sent_want (root_text name) w.root q.root can.0, after_sent (root_text name) w.root after w.after q.root q.goes_on can.1)
  sending_want request choices question q can = absurd q

  reaching_want : AreDone Wants (reaching_steps words.request)
  reaching_want =
      both Wants (name_steps words.request) (reach_step ∷ [])
      (each_name ask.mib Wants name_want words.request ask.asked.choices ask.plan.question ask.asked.question) (
        (λ f. table_want_only (subst (λ (a : Address). ReachFails files ask.mib a why) (agent_is f.0 f.1) f.2)),
        tt,
      )

  pub wants_early : IsEarlyRefusal words files why → IsWant why
  wants_early (inl e) = plain_want e
  wants_early (inr h) = absurd (no_loading_failure h.failed h.fails)

  pub wants_late : IsLateRefusal words files ask.mib why → IsWant why
  wants_late late = by_reason late.fails
    where
      by_reason : (why ≡ out_of_memory) ⊎ IsFirstToFail (reaching_steps words.request) (IsDoneBy words files ask.mib) (FailsBy words files ask.mib) why
          → IsWant why
      by_reason (inl e) = plain_want e
      by_reason (inr h) = among Wants h.done h.failed h.left (subst (AreDone Wants) h.order reaching_want) h.fails

  pub wants_last : CanBeSent ask.plan.question → IsLastRefusal words files ask.mib why → IsWant why
  wants_last can last =
      let h = last.fails in
      among Wants h.done h.failed h.left
      (subst (AreDone Wants) h.order (sending_want words.request ask.asked.choices ask.plan.question ask.asked.question can)) h.fails
