-- The rules for an instance and for a stack, as tests and as facts; where an instance stands after it moves on.
use Prim.Native.Nat.{ℕ, ◌-◌, ◌<◌}
use mathlib.Core.Path.{◌≡◌, refl, sym}
use mathlib.Core.Bool.{Bool, true, false, cond, not}
use native.Mathlib.Omega.{arith}
use lib.Dec.{ltb, leb, eqb}
use lib.ListN.{length, get_or}
use borrow.Author.Tests.{lt-ltb, ltb-true, le-leb, leb-true, leb-false, lt-leb, not-true}
use Rattle.std.specs.List.{list_all}
use Rattle.lists.proofs.BoolLaws.{by_cases, both_ways, and_parts, and_both}
use Rattle.lists.proofs.TestCounts.{all_every, every_all}
use Rattle.literal.specs.declared.Env.{Env}
use Rattle.literal.specs.Environment.{is_env}
use Rattle.library.specs.declared.Branch.{Branch}
use Rattle.library.specs.Plan.{Library, no_branch}
use Rattle.model.specs.declared.Instance.{Instance}
use Rattle.model.specs.declared.Status.{Status}
use Rattle.model.specs.declared.Status.TheVariants.{Active, Suspended}
use Rattle.model.specs.State.{most_height, Intention}
use Rattle.model.specs.Instance.{is_active, is_waiting, is_suspended, plan_of, branches_of, branch_of, step_to}
use Rattle.model.specs.Turn.{Move, fails, succeeds, tries, move_by, height_of}
use Rattle.model.specs.WellFormed.{is_status, is_sound, is_stack}
use Rattle.model.specs.Formed.{Acceptable, Sound, Stacked}

-- ---- Statuses

pub active_awake : (s : Status) → is_active s ≡ true → is_suspended s ≡ false
active_awake Suspended e = sym e
active_awake s e = refl

pub waiting-awake : (s : Status) → is_waiting s ≡ true → is_suspended s ≡ false
waiting-awake Suspended e = sym e
waiting-awake s e = refl

pub waiting_idle : (s : Status) → is_waiting s ≡ true → is_active s ≡ false
waiting_idle Active e = sym e
waiting_idle s e = refl

pub suspended_idle : (s : Status) → is_suspended s ≡ true → is_active s ≡ false
suspended_idle Active e = sym e
suspended_idle s e = refl

-- who waits or is suspended has tried a branch
pub tried-some : (n kind : ℕ) (s : Status) → is_status n kind s ≡ true → is_active s ≡ false → 0 < n
unfolding is_status
tried-some n kind Active e a = both_ways refl a
tried-some n kind s e a = ltb-true 0 n (and_parts (ltb 0 n) _ e).0

-- ---- The rules for an instance

pub sound_both : (library : Library) (x : Instance) → Sound library x → is_sound library x ≡ true
unfolding is_sound
sound_both library x s = rw (lt-ltb _ _ s.plan, lt-ltb _ _ s.state, le-leb _ _ s.tried, s.env, s.status)

pub sound_parts : (library : Library) (x : Instance) → is_sound library x ≡ true → Sound library x
unfolding is_sound
sound_parts library x e =
    let a = and_parts (ltb x.plan (length library.plans)) _ e in
    let b = and_parts (ltb x.state (length (plan_of library x).states)) _ a.1 in
    let c = and_parts (leb x.tried (length (branches_of library x))) _ b.1 in
    let d = and_parts (is_env x.env) _ c.1 in
    record { plan = ltb-true _ _ a.0; state = ltb-true _ _ b.0; tried = leb-true _ _ c.0; env = d.0; status = d.1 }

-- ---- The rules for a stack

pub stack-both : (stack : Intention) → Stacked stack → is_stack stack ≡ true
unfolding is_stack
stack-both stack s =
    and_both (list_all (λ x. is_suspended x.status) stack.below) _ (every_all (λ x. is_suspended x.status) stack.below s.asleep)
    (and_both (leb (height_of stack) most_height) _ (le-leb _ _ s.height)
    (by_cases (is_suspended stack.top.status) (λ e. rw (e, lt-leb _ _ (s.room e))) (λ e. rw e)))

pub stack-parts : (stack : Intention) → is_stack stack ≡ true → Stacked stack
unfolding is_stack
stack-parts stack e =
    let a = and_parts (list_all (λ x. is_suspended x.status) stack.below) _ e in
    let b = and_parts (leb (height_of stack) most_height) _ a.1 in
    record {
      asleep = all_every (λ x. is_suspended x.status) stack.below a.0;
      height = leb-true _ _ b.0;
      room = λ s. by_cases (leb most_height (height_of stack))
          (λ h. both_ways (and_both (is_suspended stack.top.status) (leb most_height (height_of stack)) s h) (not-true _ b.1))
          (λ h. leb-false most_height (height_of stack) h);
    }

-- ---- The next branch

-- a branch that an instance has before it
pub record Branching (library : Library) (x : Instance) (b : Branch) : Type 0 where
  pub untried : x.tried < length (branches_of library x)
  pub here : get_or (branches_of library x) x.tried no_branch ≡ b
  pub up : x.state < b.next
  pub inside : b.next < length (plan_of library x).states

abbrev pub MoveOk : Library → Instance → Move → Type 0
MoveOk library x fails = Unit {0}
MoveOk library x succeeds = Unit {0}
MoveOk library x (tries b) = Branching library x b

module _ (library : Library) (r : Acceptable library) (x : Instance) (s : Sound library x) where
  pub move_ok : (maintained : Bool) → MoveOk library x (move_by maintained (branches_of library x) x.tried)
  unfolding move_by plan_of branches_of
  move_ok maintained = go maintained (eqb (length (branches_of library x)) 0) (leb (length (branches_of library x)) x.tried) refl
    where
      go : (m e l : Bool) → leb (length (branches_of library x)) x.tried ≡ l
          → MoveOk library x (cond (not m) fails (cond e succeeds (cond l fails (tries (get_or (branches_of library x) x.tried no_branch)))))
      go true false false p =
          let low = leb-false (length (branches_of library x)) x.tried p in
          record { untried = low; here = refl; up = r.upward x.plan x.state x.tried s.plan low; inside = r.inside x.plan x.state x.tried s.plan low }
      go m e l p = tt

  -- ---- Past the last branch

  pub past_up : 0 < x.tried → x.state < (branch_of library x).next
  unfolding plan_of branches_of branch_of
  past_up h = r.upward x.plan x.state (x.tried - 1) s.plan (omega (arith, s.tried))

  pub past_sound : 0 < x.tried → (env : Env) → is_env env ≡ true → Sound library (step_to (branch_of library x).next env x)
  unfolding plan_of branches_of branch_of is_status
  past_sound h env e = record {
    plan = s.plan;
    state = r.inside x.plan x.state (x.tried - 1) s.plan (omega (arith, s.tried));
    tried = omega arith;
    env = e;
    status = refl;
  }
