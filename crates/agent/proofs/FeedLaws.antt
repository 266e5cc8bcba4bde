-- Lines run one after the other: what each gives, that a well-formed state stays well formed, and that a run is a chain of the agent's calls.
use Prim.Native.Nat.{ℕ}
use native.Mathlib.Omega.{arith}
use mathlib.Core.Path.{◌≡◌, refl, ap, sym, subst⁻¹, ◌∙◌}
use mathlib.Core.Bool.{Bool, true, false}
use Rattle.std.specs.Prelude.{Option, None, Some}
use mathlib.Core.List.{List, [], ◌∷◌, ◌++◌}
use Rattle.lists.proofs.BoolLaws.{both_ways}
use Rattle.library.specs.Layout.{library_of}
use Rattle.model.specs.declared.Answer.TheVariants.{Refused}
use Rattle.model.specs.State.{AgentState, Call, Result, Reply, view_result}
use Rattle.model.specs.Calls.{is_refusal, act, call_by, call}
use Rattle.model.specs.WellFormed.{is_well_formed}
use Rattle.model.proofs.CallLaws.{promises}
use Rattle.model.proofs.AcceptedLibrary.{acceptable}
use Rattle.state.specs.declared.State.{State}
use Rattle.state.specs.View.{view_state, counts_fit}
use Rattle.formed.specs.Formed.{WellFormedState}
use Rattle.formed.proofs.WellFormedLaws.{test_within, test_parts, test_passes}
use Rattle.printing.specs.LineText.{result_text, fits}
use Rattle.steps.specs.declared.Acted.{Acted}
use Rattle.load.specs.declared.Agent.{Agent}
use Rattle.steps.specs.View.{view_acted, plainly}
use Rattle.steps.specs.Gives.{Gives}
use Rattle.load.specs.Load.{bytes_of, is_well_formed_agent}
use Rattle.agent.specs.Feed.{respond_by, unreadable, refusal_for, Trusted, Responds, Runs, none_yet, then, in_state, Journal, start, unread, answered}

-- ---- One line

module _ (bytes : List ℕ) (s : State) where
  -- a worker's reply to a call
  pub responds_act : (c : Call) (r : Acted) → Gives s (act (library_of bytes) (view_state s) c) r → Responds bytes true s (Some c) r
  unfolding respond_by call_by
  responds_act c r g = record { means = g.means; refused = g.refused; fit = λ e. g.fit; count = g.count }

  -- a line that cannot be read
  pub responds_unread : (formed : Bool) → (formed ≡ true → counts_fit s ≡ true) → (r : Acted) → r ≡ plainly s (Refused 0) → Responds bytes formed s None r
  unfolding respond_by
  responds_unread formed fits r z = subst⁻¹ (Responds bytes formed s None) z (record { means = refl; refused = λ e. refl; fit = fits; count = omega arith })

  -- a state that is not well formed
  pub responds_refused : (formed : Bool) → formed ≡ false → (c : Option Call) (r : Acted) → r ≡ plainly s (Refused (refusal_for c)) → Responds bytes formed s c r
  unfolding respond_by call_by
  responds_refused formed e None r z = responds_unread formed (λ t. both_ways t e) r z
  responds_refused formed e (Some c) r z =
      subst⁻¹ (Responds bytes formed s (Some c)) z (record { means = rw e; refused = λ t. refl; fit = λ t. both_ways t e; count = omega arith })

  -- a line keeps a well-formed state well formed
  pub responds_kept : WellFormedState bytes s → (c : Option Call) (r : Acted) → Responds bytes true s c r → WellFormedState bytes r.state
  unfolding respond_by call
  responds_kept w c r h = record { accepted = w.accepted; fit = h.fit refl; formed = formed c h }
    where
      formed : (c : Option Call) → Responds bytes true s c r → is_well_formed (library_of bytes) (view_state r.state) ≡ true
      formed None h = subst⁻¹ (λ (x : AgentState). is_well_formed (library_of bytes) x ≡ true) (ap (λ (y : Reply). y.state) h.means) w.formed
      formed (Some c) h =
          let same : view_acted r ≡ call (library_of bytes) (view_state s) c
          = h.means ∙ ap (λ (b : Bool). call_by b (library_of bytes) (view_state s) c) (sym w.formed) in
          subst⁻¹ (λ (y : Reply). is_well_formed (library_of bytes) y.state ≡ true) same (promises (library_of bytes) (acceptable bytes w.accepted) (view_state s) w.formed c).formed

  pub responds_as : {formed : Bool} → formed ≡ true → (c : Option Call) (r : Acted) → Responds bytes true s c r → Responds bytes formed s c r
  responds_as e c r h = subst⁻¹ (λ (b : Bool). Responds bytes b s c r) e h

  -- the same, of what a line is known to say
  pub as_told : {formed : Bool} {call : Option Call} {c : Call} {r : Acted} → formed ≡ true → call ≡ Some c → Responds bytes true s (Some c) r
      → Responds bytes formed s call r
  as_told {formed} {call} {c} {r} e told h = subst⁻¹ (λ (o : Option Call). Responds bytes formed s o r) told (responds_as e (Some c) r h)

  pub trusted_next : (formed : Bool) → Trusted formed bytes s → (c : Option Call) (r : Acted) → Responds bytes formed s c r → Trusted formed bytes r.state
  trusted_next true t c r h = λ e. responds_kept (t refl) c r h
  trusted_next false t c r h = λ e. both_ways e refl

  -- a line that cannot be read has the one result, and leaves every place of the state as it was
  unread_result : (formed : Bool) (r : Acted) → Responds bytes formed s None r → view_result r.result ≡ unreadable
  unfolding respond_by
  unread_result formed r h = ap (λ (y : Reply). y.result) h.means

  unread_state : (formed : Bool) (r : Acted) → Responds bytes formed s None r → r.state ≡ s
  unread_state formed r h = h.refused (ap (λ (x : Result). is_refusal x.answer) (unread_result formed r h))

  -- on a state that is not well formed every line is refused
  unformed_state : (c : Option Call) (r : Acted) → Responds bytes false s c r → r.state ≡ s
  unfolding respond_by call_by
  unformed_state None r h = unread_state false r h
  unformed_state (Some c) r h = h.refused (ap (λ (y : Reply). is_refusal y.result.answer) h.means)

-- ---- A run on the agent's state is a journal of the agent

module _ (a : Agent) where
  -- one line more
  journal_then : (formed : Bool) (t : State) → is_well_formed_agent (in_state a t) ≡ formed
      → {calls : List (Option Call)} {text : List ℕ} → Journal a calls text (in_state a t) → (call : Option Call) (r : Acted)
      → Responds (bytes_of a) formed t call r → fits (view_result r.result) ≡ true
      → Journal a (calls ++ (call ∷ [])) (text ++ result_text (view_result r.result)) (in_state a r.state)
  unfolding respond_by
  journal_then formed t w {calls} {text} j None r h fit =
      let put : Journal a (calls ++ (None ∷ [])) (text ++ result_text (view_result r.result)) (in_state a t)
      = subst⁻¹ (λ (x : Result). Journal a (calls ++ (None ∷ [])) (text ++ result_text x) (in_state a t)) (unread_result (bytes_of a) t formed r h) (unread j) in
      subst⁻¹ (λ (u : State). Journal a (calls ++ (None ∷ [])) (text ++ result_text (view_result r.result)) (in_state a u)) (unread_state (bytes_of a) t formed r h) put
  journal_then formed t w j (Some c) r h fit =
      answered j c (record { agent = in_state a r.state; result = r.result }) (record {
        means = h.means ∙ ap (λ (b : Bool). call_by b (library_of (bytes_of a)) (view_state t) c) (sym w);
        library = refl;
        length = refl;
        refused = λ x. let same = h.refused x in λ i. in_state a (same i);
        fit = λ x. h.fit (sym w ∙ x);
        count = h.count;
      }) fit

  -- on a well-formed agent
  runs_formed : is_well_formed_agent a ≡ true → {calls : List (Option Call)} {text : List ℕ} {t : State}
      → Runs (bytes_of a) true a.state calls text t → Journal a calls text (in_state a t) × WellFormedState (bytes_of a) t
  runs_formed e none_yet = (start, test_parts a.library a.length a.state e)
  runs_formed e (then {t = t} runs call r h fit) =
      let i = runs_formed e runs in
      let w = test_passes a.library a.length t (test_within a.library a.length a.state e) i.1 in
      (journal_then true t w i.0 call r h fit, responds_kept (bytes_of a) t i.1 call r h)

  -- on another every call is refused, and the agent stays as it is
  runs_unformed : is_well_formed_agent a ≡ false → {calls : List (Option Call)} {text : List ℕ} {t : State}
      → Runs (bytes_of a) false a.state calls text t → Journal a calls text (in_state a t) × (t ≡ a.state)
  runs_unformed e none_yet = (start, refl)
  runs_unformed e (then {t = t} runs call r h fit) =
      let i = runs_unformed e runs in
      let w : is_well_formed_agent (in_state a t) ≡ false = ap (λ (u : State). is_well_formed_agent (in_state a u)) i.1 ∙ e in
      (journal_then false t w i.0 call r h fit, unformed_state (bytes_of a) t call r h ∙ i.1)

  pub runs_journal : (formed : Bool) → formed ≡ is_well_formed_agent a
      → {calls : List (Option Call)} {text : List ℕ} {t : State} → Runs (bytes_of a) formed a.state calls text t → Journal a calls text (in_state a t)
  runs_journal true e runs = (runs_formed (sym e) runs).0
  runs_journal false e runs = (runs_unformed (sym e) runs).0
