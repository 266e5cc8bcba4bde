-- Laws of loading: beliefs copied one by one, and the state that is left.
use Prim.Native.Nat.{ℕ, zero, suc, ◌+◌, ◌<◌, ◌≤◌, min}
use native.Mathlib.Nat.{add-zero}
use native.Mathlib.Omega.{arith}
use mathlib.Core.Path.{◌≡◌, refl, ap, subst, subst⁻¹, ◌∙◌}
use mathlib.Core.List.{List, []}
use lib.ListN.{length, take, length-take, get_or}
use denote.Param.Members.{Mut}
use Rattle.std.specs.Fn.{Called}
use Rattle.std.specs.Array.{IsFromFnResultFrom}
use Rattle.std.proofs.lemmas.List.{get_or_default, get_or-take, same_lists}
use Rattle.literal.specs.declared.Literal.{Literal}
use Rattle.library.specs.Plan.{no_literal}
use Rattle.belief.specs.declared.Beliefs.{Beliefs}
use mathlib.Core.Bool.{true}
use Rattle.belief.specs.Beliefs.{view}
use Rattle.library.specs.Layout.{beliefs_of, library_of}
use Rattle.accepted.specs.Refusal.{most_bytes, refusal_of}
use Rattle.accepted.proofs.Size.{library_most}
use Rattle.state.specs.declared.State.{State}
use Rattle.state.specs.View.{view_state, counts_fit}
use Rattle.std.specs.Prelude.{Result, Ok, Err}
use Rattle.refusals.specs.declared.Refusal.{Refusal}
use Rattle.refusals.proofs.NumberLaws.{never_zero}
use Rattle.load.specs.declared.Agent.{Agent}
use Rattle.load.specs.Load.{Holds, starts_with, Loaded, Loads}
use Rattle.state.proofs.CountParts.{counts_whole}

-- what `from_fn` makes by a closure that stays as it is
pub made_each : {F B : Type 0} (g : Mut F (ℕ × Unit {0}) B) (f : F) (ys : List B) (h : ℕ → B)
    → ((i : ℕ) (y : B) (q : F) → Called g f (i, tt) y q → (q ≡ f) × (y ≡ h i))
    → (n first : ℕ) → IsFromFnResultFrom g f ys first n → (k : ℕ) (d : B) → k < n → get_or ys (first + k) d ≡ h (first + k)
made_each g f ys h calls zero first made k d less = absurd (omega arith)
made_each g f ys h calls (suc n) first made zero d less = rw add-zero (made.2.1 d ∙ (calls first made.1 made.0 made.3).1)
made_each {F} g f ys h calls (suc n) first made (suc k) d less =
    let same = (calls first made.1 made.0 made.3).0 in
    let place : first + 1 + k ≡ first + suc k = omega arith in
    rw place at (made_each g f ys h calls n (first + 1) (subst (λ (p : F). IsFromFnResultFrom g p ys (first + 1) n) same made.4) k d (omega arith))

-- a table of so many beliefs, each place of which holds the belief of its number
pub filled : (beliefs items : List Literal) (n : ℕ) → length items ≡ 64 → ((i : ℕ) (d : Literal) → i < 64 → get_or items i d ≡ get_or beliefs i no_literal)
    → n ≡ length beliefs → length beliefs ≤ 64 → Holds beliefs (record { items = items; count = n })
filled beliefs items n size each e few =
    let now : min n 64 ≡ n = omega arith in
    let held : length (take n items) ≡ length beliefs = simp length-take (omega arith) in
    record {
      places = size;
      few = omega arith;
      means = rw now (same_lists (take n items) beliefs held (λ i d h.
          let inside : i < n = omega arith in
          get_or-take n items i d inside ∙ each i d (omega arith) ∙ get_or_default beliefs i no_literal d (omega arith)));
    }

-- ---- The first state

-- it is the model's state with these beliefs alone
starts_view : (table : Beliefs) (beliefs : List Literal) → view table ≡ beliefs
    → view_state (starts_with table) ≡ record { beliefs = beliefs; queue = []; stacks = []; taken = 0; made = 0 }
starts_view table beliefs p = λ i. record { beliefs = p i; queue = []; stacks = []; taken = 0; made = 0 }

starts_fit : (table : Beliefs) → table.count ≤ 64 → counts_fit (starts_with table) ≡ true
starts_fit table few =
    counts_whole (starts_with table) (record { beliefs = few; queued = omega arith; stacked = omega arith; depths = refl })

-- ---- The answer

pub loads-accepted : (bytes : List ℕ) (table : Beliefs) (s : State) (a : Agent) → Holds (beliefs_of bytes) table → s ≡ starts_with table
    → refusal_of bytes ≡ 0 → a.length ≡ length bytes
    → (length a.library ≡ most_bytes) × (take (length bytes) a.library ≡ bytes) → a.state ≡ s → Loaded bytes a
unfolding library_of
loads-accepted bytes table s a h e accepted l c t =
    let starts = t ∙ e in
    record {
      accepted = accepted;
      copy = ap (λ (m : ℕ). take m a.library) l ∙ c.1;
      state = ap view_state starts ∙ starts_view table (beliefs_of bytes) h.means;
      table = subst⁻¹ (λ (u : State). Holds (beliefs_of bytes) u.beliefs) starts h;
      fit = ap counts_fit starts ∙ starts_fit table h.few;
      within = omega (arith, library_most bytes accepted);
      places = c.0;
    }

-- of an accepted library there is an agent, whatever the answer that meets the contract
pub always_loads : (bytes : List ℕ) → refusal_of bytes ≡ 0 → (r : Result Agent Refusal) → Loads bytes r
    → (a : Agent) × (r ≡ Ok a) × Loaded bytes a
always_loads bytes accepted (Ok a) loads = (a, refl, loads)
always_loads bytes accepted (Err e) number = absurd (never_zero e (number ∙ accepted))
