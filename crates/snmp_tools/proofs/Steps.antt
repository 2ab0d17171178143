-- A job that asks an agent is refused at the first step that fails; the steps before it are done (`at_showing` to `unsent`).
use Rattle.std.proofs.{lemmas.Grind.common_steps, lemmas.List.Elements.All-head, lemmas.List.Elements.All-tail, lemmas.List.Elements.AllZip-push}
use Rattle.std.proofs.Common.{◌≡◌, ◌⊎◌, inl, inr, ◌++◌, ◌+◌, ◌<◌, ℕ, zero, suc, List, [], ◌∷◌, All, Bor, Option, Some, None, Ok, length, map, take}
use Rattle.std.proofs.Common.{drop, get_or, option_map, unwrap_or, refl, sym, ◌∙◌, ap, subst, append_assoc, arith}
use Rattle.smi_show.specs.name.Meant.{TextMeans}
use Rattle.snmp_oid.specs.Identifier.{IsWire, wire}
use Rattle.snmp_io.specs.{Files.Holdings, Files.MayHold, Steps.AreDone, Steps.IsFirstToFail}
use Rattle.snmp_net.specs.Address.{Address, address_of}
use Rattle.snmp_words.specs.Words.{texts_at}
use Rattle.snmp_tools.specs.Asking.{HasAgent, IsOptionalName, IsReached, MibsFail, NameFails, ReachFails, agent_step, community_step, letters_step}
use Rattle.snmp_tools.specs.Asking.{version_step}
use Rattle.snmp_tools.specs.{private.Planned.chosen, Letters.Choices, FaultText.Fault, FaultText.out_of_memory, FaultText.unsendable, load.Loaded.IsMibOf}
use Rattle.snmp_tools.specs.{private.Start.BeginFails, private.Start.ResumeFails, declared.plan.Orders.Orders, declared.plan.Plan.Plan}
use Rattle.snmp_tools.specs.private.Planned.{AgentFails, AreOrdersOf, HasTextsOf, NamesFail, ShowingFails, plan_of, question_of}
use Rattle.snmp_tools.specs.Question.{AreNames, AskFor, AskWords, FailsBy, FailsFor, HasMeaning, HasSendable, HasUnsendable, IsDoneBy, IsDoneFor}
use Rattle.snmp_tools.specs.Question.{IsEarlyRefusal, IsLastRefusal, IsLateRefusal, IsQuestionOf, LaterStep, LoadingStep, Question, Request, get}
use Rattle.snmp_tools.specs.Question.{names, subtree, walk, asking, below_step, choices_step, goes_on_after, loading_steps, mibs_step, name_step}
use Rattle.snmp_tools.specs.Question.{name_steps, reach_step, reaching_steps, root_text, sent_step, sent_steps}
use Rattle.snmp_tools.specs.declared.plan.Question as planned
use Rattle.snmp_tools.specs.declared.plan.Question.TheVariants as questions
use Rattle.smi_tree.specs.{Tree.Contents}
use Rattle.snmp_tools.proofs.Texts.{texts-more, texts-parts}

-- if `r` is the reference in `o`, or `d` if `o` is `None`, then the text of `r` is the text of the reference in `o`, or the text of `d` if `o` is `None`
pub text_or : (o : Option (Bor (List ℕ))) (d r : Bor (List ℕ)) → r ≡ unwrap_or o d → r.now ≡ unwrap_or (option_map (λ s. s.now) o) d.now
text_or None d r e = ap (λ (s : Bor (List ℕ)). s.now) e
text_or (Some t) d r e = ap (λ (s : Bor (List ℕ)). s.now) e

module _ {S : Type 0} (IsDone : S → Type 0) (Fails : S → Fault → Type 0) (why : Fault) where
  pub first : (step : S) (left : List S) → Fails step why → IsFirstToFail (step ∷ left) IsDone Fails why
  first step left f = record { done = []; failed = step; left = left; order = refl; are_done = tt; fails = f }

  pub later : (step : S) (steps : List S) → IsDone step → IsFirstToFail steps IsDone Fails why → IsFirstToFail (step ∷ steps) IsDone Fails why
  later step steps d h = record {
    done = step ∷ h.done;
    failed = h.failed;
    left = h.left;
    order = ap (λ (more : List S). step ∷ more) h.order;
    are_done = (d, h.are_done);
    fails = h.fails;
  }

-- if `steps` have a first step that fails, and all steps of `done` are done, then this is the first that fails of `done ++ steps`
after_all : {S : Type 0} (IsDone : S → Type 0) (Fails : S → Fault → Type 0) (why : Fault) (done steps : List S) → AreDone IsDone done
    → IsFirstToFail steps IsDone Fails why → IsFirstToFail (done ++ steps) IsDone Fails why
after_all IsDone Fails why [] steps d h = h
after_all IsDone Fails why (step ∷ done) steps d h = later IsDone Fails why step (done ++ steps) d.0 (after_all IsDone Fails why done steps d.1 h)

-- if `steps` have a first step that fails, then it is the first that fails of `steps ++ more` too
before_more : {S : Type 0} (IsDone : S → Type 0) (Fails : S → Fault → Type 0) (why : Fault) (steps more : List S) → IsFirstToFail steps IsDone Fails why
    → IsFirstToFail (steps ++ more) IsDone Fails why
before_more {S} IsDone Fails why steps more h = grind (arith, common_steps, append_assoc)

-- if `f step` is done whenever `step` is, and fails whenever `step` fails, then `f` maps the first of some steps that fails to the first of the mapped steps
-- that fails
module _ {S T : Type 0} (f : S → T) where
  map_parts : (done : List S) (failed : S) (left : List S) → map f (done ++ failed ∷ left) ≡ map f done ++ f failed ∷ map f left
  map_parts [] failed left = refl
  map_parts (step ∷ done) failed left = ap (λ (s : List T). f step ∷ s) (map_parts done failed left)

  module _ (IsDone : S → Type 0) (Is : T → Type 0) (follows : (step : S) → IsDone step → Is (f step)) where
    pub map_done : (steps : List S) → AreDone IsDone steps → AreDone Is (map f steps)
    map_done [] d = tt
    map_done (step ∷ steps) d = (follows step d.0, map_done steps d.1)

    pub mapped : (Fails : S → Fault → Type 0) (Does : T → Fault → Type 0) (why : Fault) → ((step : S) → Fails step why → Does (f step) why)
        → (steps : List S) → IsFirstToFail steps IsDone Fails why → IsFirstToFail (map f steps) Is Does why
    mapped Fails Does why fail steps h = record {
      done = map f h.done;
      failed = f h.failed;
      left = map f h.left;
      order = ap (map f) h.order ∙ map_parts h.done h.failed h.left;
      are_done = map_done h.done h.are_done;
      fails = fail h.failed h.fails;
    }

-- if texts mean identifiers, each has a meaning
pub are_named : (mib : Contents) (texts os : List (List ℕ)) → AreNames mib texts os → AreDone (HasMeaning mib) texts
are_named mib [] os e = tt
are_named mib (text ∷ texts) [] e = absurd e
are_named mib (text ∷ texts) (name ∷ os) e = ((name, e.0), are_named mib texts os e.1)

-- if `P` holds of the step of each name with a meaning, then it holds of all steps that look up the names of a request, if each of these names has a meaning
module _ (mib : Contents) (P : LaterStep → Type 0) (one : (text o : List ℕ) → TextMeans mib text (Ok o) → P (name_step text)) where
  each_text : (texts os : List (List ℕ)) → AreNames mib texts os → AreDone P (map name_step texts)
  each_text [] os e = tt
  each_text (text ∷ texts) [] e = absurd e
  each_text (text ∷ texts) (o ∷ os) e = (one text o e.0, each_text texts os e.1)

  each_after : (given planned : Option (List ℕ)) → IsOptionalName mib given planned → AreDone P (goes_on_after (λ text. name_step text ∷ []) given)
  each_after None planned h = tt
  each_after (Some text) planned h = (one text h.0 h.1, tt)

  pub each_name : (request : Request) (choices : Choices) (question : Question) → IsQuestionOf request choices mib question → AreDone P (name_steps request)
  each_name (get texts) choices (names os) q = each_text texts os q
  each_name (walk bulk letters after name) choices (subtree w) q = (one (root_text name) w.root q.root, each_after after w.after q.goes_on)
  each_name request choices question q = absurd q

-- if the first `i` texts mean the identifiers `os`, and the text at `i` means `o`, then the first `i + 1` texts mean `os` followed by `o`
pub more_names : (mib : Contents) (texts : List (Bor (List ℕ))) (i : ℕ) (d : Bor (List ℕ)) (os : List (List ℕ)) (o : List ℕ) → i < length texts
    → AreNames mib (texts_at (take i texts)) os → TextMeans mib (get_or texts i d).now (Ok o)
    → AreNames mib (texts_at (take (i + 1) texts)) (os ++ o ∷ [])
more_names mib texts i d os o inside are means = grind (arith, common_steps, texts-more, AllZip-push)

-- if the first `i` texts mean identifiers, and the text at index `i` doesn't, then it is the first that fails
pub first_unnamed : (mib : Contents) (texts : List (Bor (List ℕ))) (i : ℕ) (d : Bor (List ℕ)) (os : List (List ℕ)) (why : Fault) → i < length texts
    → AreNames mib (texts_at (take i texts)) os → NameFails mib (get_or texts i d).now why
    → IsFirstToFail (texts_at texts) (HasMeaning mib) (NameFails mib) why
first_unnamed mib texts i d os why inside are fails = record {
  done = texts_at (take i texts);
  failed = (get_or texts i d).now;
  left = texts_at (drop (i + 1) texts);
  order = texts-parts texts i d inside;
  are_done = are_named mib (texts_at (take i texts)) os are;
  fails = fails;
}

-- if the first `i` names can be sent, and the name at index `i` can't, then its text is the first that fails
pub first_unsent : (mib : Contents) (texts : List (Bor (List ℕ))) (os : List (List ℕ)) (i : ℕ) (text d : Bor (List ℕ)) (o e : List ℕ)
    → AreNames mib (texts_at texts) os → i < length os → text ≡ get_or texts i d → o ≡ get_or os i e
    → All (λ n. IsWire (wire n)) (take i os) → (IsWire (wire o) → ⊥)
    → IsFirstToFail (texts_at texts) (HasSendable mib) (HasUnsendable mib) (unsendable text.now)
first_unsent mib texts [] i text d o e are inside is_text is_name sent unsent = absurd (omega arith)
first_unsent mib [] (n ∷ os) i text d o e are inside is_text is_name sent unsent = absurd are
first_unsent mib (t ∷ texts) (n ∷ os) zero text d o e are inside is_text is_name sent unsent = grind (arith, common_steps, first)
first_unsent mib (t ∷ texts) (n ∷ os) (suc i) text d o e are inside is_text is_name sent unsent =
    later (HasSendable mib) (HasUnsendable mib) (unsendable text.now) t.now (texts_at texts) (n, are.0, All-head (λ n. IsWire (wire n)) n (take i os) sent)
    (first_unsent mib texts os i text d o e are.1 (omega arith) is_text is_name (All-tail (λ n. IsWire (wire n)) n (take i os) sent) unsent)

module _ (words : AskWords) (files : Holdings) (why : Fault) where
  abbrev Done : LoadingStep → Type 0
  Done = IsDoneFor words files

  abbrev Fails : LoadingStep → Fault → Type 0
  Fails = FailsFor words files

  abbrev Refused : List LoadingStep → Type 0
  Refused steps = IsFirstToFail steps Done Fails why

  -- if the version or the letters of -O are refused, then the job is refused before any module file is read
  pub at_showing : ShowingFails words.asking why → IsEarlyRefusal words files why
  at_showing (inl f) = inr (first Done Fails why (asking version_step) _ f)
  at_showing (inr f) = inr (later Done Fails why (asking version_step) _ f.0 (first Done Fails why (asking letters_step) _ f.1))

  module _ (v : Done (asking version_step)) (l : Done (asking letters_step)) where
    shown : (steps : List LoadingStep) → Refused steps → Refused (asking version_step ∷ asking letters_step ∷ steps)
    shown steps h = later Done Fails why (asking version_step) _ v (later Done Fails why (asking letters_step) _ l h)

    pub at_choices : Fails choices_step why → IsEarlyRefusal words files why
    at_choices f = inr (shown _ (first Done Fails why choices_step _ f))

    module _ (c : Done choices_step) where
      pub at_agent : AgentFails words.asking why → IsEarlyRefusal words files why
      at_agent (inl f) = inr (shown _ (later Done Fails why choices_step _ c (first Done Fails why (asking community_step) _ f)))
      at_agent (inr f) =
          inr (shown _ (later Done Fails why choices_step _ c (later Done Fails why (asking community_step) _ f.0
          (first Done Fails why (asking agent_step) _ f.1))))

  module _ (orders : Orders) (are : AreOrdersOf words orders) where
    pub at_mibs : (why ≡ out_of_memory) ⊎ MibsFail files words.asking.mibs why → IsEarlyRefusal words files why
    at_mibs (inl e) = inl e
    at_mibs (inr f) =
        inr (shown are.version (orders.letters, are.letters) _ (later Done Fails why choices_step _ (chosen orders.choices, are.chosen)
        (later Done Fails why (asking community_step) _ are.short_community
        (later Done Fails why (asking agent_step) _ (address_of orders.agent, are.agent) (first Done Fails why mibs_step _ f)))))

    module _ (mib : Contents) (known : IsMibOf (MayHold files) words.asking mib) where
      loading_done : AreDone Done loading_steps
      loading_done = (
        are.version,
        (
          (orders.letters, are.letters),
          (
            (chosen orders.choices, are.chosen),
            (
              are.short_community,
              ((address_of orders.agent, are.agent), ((mib, known), tt)),
            ),
          ),
        ),
      )

      abbrev DoneBy : LaterStep → Type 0
      DoneBy = IsDoneBy words files mib

      abbrev FailsLater : LaterStep → Fault → Type 0
      FailsLater = FailsBy words files mib

      abbrev RefusedBy : List LaterStep → Type 0
      RefusedBy steps = IsFirstToFail steps DoneBy FailsLater why

      loaded : (why ≡ out_of_memory) ⊎ RefusedBy (reaching_steps words.request) → IsLateRefusal words files mib why
      loaded h = record { loaded = loading_done; fails = h }

      -- if a request fails as `NamesFail` says, then memory ran out, or one of the steps that look up its names was the first to fail
      at_names : (request : Request) → NamesFail request mib why → (why ≡ out_of_memory) ⊎ RefusedBy (name_steps request)
      at_names (get texts) (inl e) = inl e
      at_names (get texts) (inr h) =
          inr (mapped name_step (HasMeaning mib) DoneBy (λ text d. d) (NameFails mib) FailsLater why (λ text f. f) texts h)
      at_names (walk bulk letters after name) (inl f) = inr (first DoneBy FailsLater why (name_step (root_text name)) _ f)
      at_names (walk bulk letters after name) (inr f) =
          let rest : RefusedBy (name_step f.1.0 ∷ []) = first DoneBy FailsLater why (name_step f.1.0) [] f.1.2 in
          let P : Option (List ℕ) → Type 0 = λ given. RefusedBy (goes_on_after (λ text. name_step text ∷ []) given) in
          inr (later DoneBy FailsLater why (name_step (root_text name)) _ f.0 (subst P (sym f.1.1) rest))

      pub names_refused : NamesFail words.request mib why → IsLateRefusal words files mib why
      names_refused f = by_names (at_names words.request f)
        where
          by_names : (why ≡ out_of_memory) ⊎ RefusedBy (name_steps words.request) → IsLateRefusal words files mib why
          by_names (inl e) = loaded (inl e)
          by_names (inr h) = loaded (inr (before_more DoneBy FailsLater why (name_steps words.request) (reach_step ∷ []) h))

      names_done : (request : Request) (choices : Choices) (question : Question) → IsQuestionOf request choices mib question
          → AreDone DoneBy (name_steps request)
      names_done = each_name mib DoneBy (λ text o means. (o, means))

      -- if the walk can't continue after the name of --after, then one of the steps that test this name is the first that fails
      resumed : (root after : List ℕ) (text : List ℕ) (given planned : Option (List ℕ)) → IsOptionalName mib given planned → planned ≡ Some after
          → TextMeans mib text (Ok root) → ResumeFails root after (unwrap_or given []) why
          → RefusedBy (goes_on_after (λ t. below_step text t ∷ sent_step t ∷ []) given)
      resumed root after text None planned h e means f = let no : ⊥ = cc in absurd no
      resumed root after text (Some t) planned h e means (inl f) =
          let same : h.0 ≡ after = cc in
          first DoneBy FailsLater why (below_step text t) _ (root, after, means, subst (λ (n : List ℕ). TextMeans mib t (Ok n)) same h.1, (f.0, f.1))
      resumed root after text (Some t) planned h e means (inr f) =
          let same : h.0 ≡ after = cc in
          later DoneBy FailsLater why (below_step text t) _ (root, after, means, subst (λ (n : List ℕ). TextMeans mib t (Ok n)) same h.1, f.0)
          (first DoneBy FailsLater why (sent_step t) [] (after, subst (λ (n : List ℕ). TextMeans mib t (Ok n)) same h.1, f.1, f.2))

      at_sent : (request : Request) (choices : Choices) (question : planned.Question) → IsQuestionOf request choices mib (question_of question)
          → HasTextsOf request question → BeginFails question why → RefusedBy (sent_steps request)
      at_sent (get texts) choices (questions.Get ns) q are f =
          let P : List (List ℕ) → Type 0 = λ ts. IsFirstToFail ts (HasSendable mib) (HasUnsendable mib) why in
          let named = subst (λ (ts : List (List ℕ)). AreNames mib ts ns.oids.items) (sym are) q in
          mapped sent_step (HasSendable mib) DoneBy (λ text d. d) (HasUnsendable mib) FailsLater why (λ text f. f) texts (subst P are (f mib named))
      at_sent (walk bulk letters after name) choices (questions.Walk w) q are (inl f) =
          first DoneBy FailsLater why (sent_step (root_text name)) _ (w.root, q.root, f.0, f.1 ∙ ap unsendable are.0)
      at_sent (walk bulk letters after name) choices (questions.Walk w) q are (inr f) =
          later DoneBy FailsLater why (sent_step (root_text name)) _ (w.root, q.root, f.0)
          (resumed w.root f.1.0 (root_text name) after w.after q.goes_on f.1.1 q.root
          (subst (λ (t : List ℕ). ResumeFails w.root f.1.0 t why) are.1 f.1.2))
      at_sent request choices question q are f = absurd q

      module _ (plan : Plan) (asked : AskFor words mib (plan_of plan)) (only : HasAgent words.asking.agent (plan_of plan).agent) (agent : Address)
          (over : address_of plan.orders.agent ≡ agent) where
        only_agent : HasAgent words.asking.agent agent
        only_agent = subst (HasAgent words.asking.agent) over only

        -- if memory runs out, or if the agent can't be reached, then the job is refused for that reason
        pub unreached : (why ≡ out_of_memory) ⊎ ReachFails files mib agent why → IsLateRefusal words files mib why
        unreached (inl e) = loaded (inl e)
        unreached (inr f) =
            loaded (inr (after_all DoneBy FailsLater why (name_steps words.request) (reach_step ∷ [])
            (names_done words.request asked.choices (question_of plan.question) asked.question)
            (first DoneBy FailsLater why reach_step [] (agent, only_agent, f))))

        -- if the question can't be asked, then the job is refused at one of the last steps, which test the names
        pub unsent : HasTextsOf words.request plan.question → IsReached files mib agent → BeginFails plan.question why → IsLastRefusal words files mib why
        unsent are reached f = record {
          loaded = loading_done;
          named = names_done words.request asked.choices (question_of plan.question) asked.question;
          reached = (agent, only_agent, reached);
          fails = at_sent words.request asked.choices plan.question asked.question are f;
        }
