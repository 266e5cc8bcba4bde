-- The steps of the loop that writes the live instances into one array.
use Prim.Native.Nat.{ℕ, zero, suc, ◌+◌, ◌-◌, ◌*◌, ◌<◌, ◌≤◌, min}
use native.Mathlib.Numerals.{add-one}
use native.Mathlib.Omega.{arith}
use mathlib.Core.Path.{◌≡◌, refl, ap, sym, ◌∙◌}
use mathlib.Core.Bool.{cond}
use mathlib.Core.List.{List, [], ◌∷◌, ◌++◌, map, append_assoc, append-nil, map-append}
use lib.ListN.{length, take, drop, set, get_or, replicate, length-set, length-map, length-append, length-take, take-append-drop, drop_of_length-le, get_or-append}
use lib.Seq.{take-suc-set, take_at, drop-cons, drop-set-lt, drop-drop, get_or-take, get_or-append-add}
use lib.Dec.{ltb}
use borrow.Author.Tests.{lt-ltb}
use Rattle.model.specs.declared.Instance.{Instance}
use Rattle.model.specs.declared.Origin.{Origin}
use Rattle.model.specs.declared.Origin.TheVariants.{External}
use Rattle.model.specs.Live.{Job, goal_of, jobs_on, live}
use Rattle.state.specs.declared.Stack.{Stack}
use Rattle.state.proofs.StackLaws.{length-down}
use Rattle.state.specs.View.{no_instance, depth_of, down, view_stack}
use Rattle.jobs.specs.declared.Job.{Job as Stored}
use Rattle.jobs.specs.declared.Jobs.{Jobs}
use Rattle.jobs.specs.Jobs.{store, job_of, no_job, flat, view_jobs}

-- ---- The array

-- the first places hold all but the rest of the whole, and the others nothing
pub record Written (items : List Stored) (count : ℕ) (rest whole : List Job) : Type 0 where
  pub long : length items ≡ 64
  pub clear : drop count items ≡ replicate (64 - count) no_job
  pub joined : map job_of (take count items) ++ rest ≡ whole

pub written_start : (nobody : Stored) (whole : List Job) → nobody ≡ no_job → Written (replicate 64 nobody) 0 whole whole
written_start nobody whole e = record { long = refl; clear = ap (replicate 64) e; joined = refl }

drop_one : (n : ℕ) → 0 < n → drop 1 (replicate n no_job) ≡ replicate (n - 1) no_job
drop_one zero h = absurd (omega arith)
drop_one (suc n) h = let e : n ≡ suc n - 1 = omega arith in ap (λ (m : ℕ). replicate m no_job) e

written_set : (items : List Stored) (count : ℕ) (job : Job) (rest whole : List Job) → Written items count (job ∷ rest) whole → count < 64
    → Written (set items count (store job)) (count + 1) rest whole
written_set items count job rest whole w h = record { long = length-set items count (store job) ∙ w.long; clear = clear; joined = joined }
  where
    low : count < length items
    low = rw w.long h

    clear : drop (count + 1) (set items count (store job)) ≡ replicate (64 - (count + 1)) no_job
    clear =
        let e : 64 - count - 1 ≡ 64 - (count + 1) = omega arith in
        drop-set-lt (count + 1) items count (store job) (omega arith)
        ∙ sym (drop-drop 1 count items)
        ∙ ap (drop 1) w.clear
        ∙ drop_one (64 - count) (omega arith)
        ∙ ap (λ (m : ℕ). replicate m no_job) e

    joined : map job_of (take (count + 1) (set items count (store job))) ++ rest ≡ whole
    joined =
        rw (add-one count, take-suc-set items count (store job) low)
        (ap (λ (jobs : List Job). jobs ++ rest) (map-append job_of (take count items) (store job ∷ []))
        ∙ append_assoc (map job_of (take count items)) (job ∷ []) rest
        ∙ w.joined)

map_stored : (xs : List Stored) → map store (map job_of xs) ≡ xs
map_stored [] = refl
map_stored (x ∷ xs) = ap (λ (ys : List Stored). x ∷ ys) (map_stored xs)

pub written_end : (items : List Stored) (count : ℕ) (whole : List Job) → Written items count [] whole → count ≤ 64
    → ◌≡◌ {A = Jobs} (record { items = items; count = count }) (flat whole)
unfolding flat
written_end items count whole w h = λ i. record { items = filled i; count = counted i }
  where
    jobs : map job_of (take count items) ≡ whole
    jobs = sym (append-nil (map job_of (take count items))) ∙ w.joined

    counted : count ≡ length whole
    counted = sym (ap length (sym jobs) ∙ length-map (take count items) job_of ∙ length-take count items ∙ rw w.long (omega arith))

    filled : items ≡ map store whole ++ replicate (64 - length whole) no_job
    filled =
        sym (take-append-drop count items)
        ∙ ap (λ (xs : List Stored). xs ++ drop count items) (sym (map_stored (take count items)) ∙ ap (map store) jobs)
        ∙ ap (λ (xs : List Stored). map store whole ++ xs) (w.clear ∙ ap (λ (m : ℕ). replicate (64 - m) no_job) counted)

-- a job that there is room for is counted
pub counted : (items : List Stored) (count next : ℕ) → next ≡ cond (ltb count (length items)) (count + 1) count → length items ≡ 64 → count < 64
    → next ≡ count + 1
counted items count next n long few = n ∙ rw (lt-ltb count (length items) (rw long few))

-- ---- The instances below a top, which the loop takes from the last to the first

down_front : (n : ℕ) (xs ys : List Instance) → n ≤ length xs → down n (xs ++ ys) ≡ down n xs
unfolding down
down_front zero xs ys h = refl
down_front (suc n) xs ys h =
    let e : get_or (xs ++ ys) n no_instance ≡ get_or xs n no_instance = get_or-append xs ys no_instance n (omega arith) in
    rw (e, down_front n xs ys (omega arith))

down_last : (xs : List Instance) (x : Instance) → down (length (xs ++ (x ∷ []))) (xs ++ (x ∷ [])) ≡ x ∷ down (length xs) xs
unfolding down
down_last xs x =
    let n : length (xs ++ (x ∷ [])) ≡ suc (length xs) = length-append xs (x ∷ []) ∙ omega arith in
    let z : length xs + 0 ≡ length xs = omega arith in
    let e : get_or (xs ++ (x ∷ [])) (length xs) no_instance ≡ x = ap (λ (m : ℕ). get_or (xs ++ (x ∷ [])) m no_instance) (sym z) ∙ get_or-append-add xs (x ∷ []) 0 no_instance in
    rw (n, e, down_front (length xs) xs (x ∷ []) (omega arith))

down_taken : (n k : ℕ) (xs : List Instance) → n ≤ k → down n (take k xs) ≡ down n xs
unfolding down
down_taken zero k xs h = refl
down_taken (suc n) k xs h =
    let e : get_or (take k xs) n no_instance ≡ get_or xs n no_instance = get_or-take k xs n no_instance (omega arith) in
    rw (e, down_taken n k xs (omega arith))

-- ---- What is left to write

-- the jobs of an instance and of those below it, and then the rest
abbrev pub on_stack : ℕ → Instance → List Instance → List Job → List Job
on_stack external x below rest = jobs_on external (x ∷ down (length below) below) ++ rest

-- the jobs of the stacks from i on
abbrev pub live_from : List Stack → ℕ → List Job
live_from stacks i = live (map view_stack (drop i stacks))

module _ (items : List Stored) (count : ℕ) (whole : List Job) where
  -- the next stack, whose instances are to be written from the top
  pub written_stack : (stacks : List Stack) (i : ℕ) (below : List Instance) (d : Stack) → i < length stacks
      → below ≡ take (depth_of (get_or stacks i d)) (get_or stacks i d).below → length below ≡ depth_of (get_or stacks i d)
      → Written items count (live_from stacks i) whole
      → Written items count (on_stack (get_or stacks i d).external (get_or stacks i d).top below (live_from stacks (i + 1))) whole
  unfolding live
  written_stack stacks i below d low b n w =
      let k = get_or stacks i d in
      let e : down (length below) below ≡ down (depth_of k) k.below =
      ap (λ (m : ℕ). down m below) n ∙ ap (down (depth_of k)) b ∙ down_taken (depth_of k) (depth_of k) k.below (omega arith) in
      rw (e, add-one i) (rw (drop-cons stacks i d low) at w)

  module _ (more : List Stored) (next : ℕ) (job : Stored) (m : more ≡ cond (ltb count (length items)) (set items count job) items)
      (n : next ≡ cond (ltb count (length items)) (count + 1) count) (few : count < 64) where
    -- a job is appended
    written_more : (rest : List Job) → Written items count (job_of job ∷ rest) whole → Written more next rest whole
    written_more rest w = rw (m, n, lt-ltb count (length items) (rw w.long few)) (written_set items count (job_of job) rest whole w few)

    -- an instance that stands on others serves the goal of the one below
    pub written_poster : (external : ℕ) (x poster : Instance) (goal : Origin) (below left : List Instance) (rest : List Job)
        → below ≡ left ++ (poster ∷ []) → goal ≡ goal_of poster → job ≡ record { instance = x; origin = goal }
        → Written items count (on_stack external x below rest) whole → Written more next (on_stack external poster left rest) whole
    unfolding jobs_on
    written_poster external x poster goal below left rest b g j w =
        written_more (on_stack external poster left rest) (rw (j, g) (rw (b, down_last left poster) at w))

    -- the bottom serves the stack's external event
    pub written_bottom : (external : ℕ) (x : Instance) (below : List Instance) (rest : List Job) → length below ≡ 0
        → job ≡ record { instance = x; origin = External external }
        → Written items count (on_stack external x below rest) whole → Written more next rest whole
    unfolding jobs_on down
    written_bottom external x below rest z j w = written_more rest (rw j (rw z at w))

  -- no stack is left
  pub written_all : (stacks : List Stack) (i : ℕ) → length stacks ≤ i → count ≤ 64 → Written items count (live_from stacks i) whole
      → ◌≡◌ {A = Jobs} (record { items = items; count = count }) (flat whole)
  unfolding live
  written_all stacks i past few w = written_end items count whole (rw (drop_of_length-le stacks past) at w) few

-- ---- What the array holds

-- eight stacks have at most 64 instances
pub live-few : (stacks : List Stack) → length (live (map view_stack stacks)) ≤ 8 * length stacks
unfolding live jobs_on
live-few [] = omega arith
live-few (stack ∷ stacks) =
    let top = jobs_on stack.external (stack.top ∷ down (depth_of stack) stack.below) in
    let one : length top ≡ suc (depth_of stack) = length_on stack.external (stack.top ∷ down (depth_of stack) stack.below) ∙ ap suc (length-down (depth_of stack) stack.below) in
    let rest = live-few stacks in
    rw (length-append top (live (map view_stack stacks))) (omega arith)
  where
    length_on : (external : ℕ) (xs : List Instance) → length (jobs_on external xs) ≡ length xs
    length_on external [] = refl
    length_on external (x ∷ xs) = ap suc (length_on external xs)

pub view-flat : (jobs : List Job) → length jobs ≤ 64 → view_jobs (flat jobs) ≡ jobs
unfolding flat
view-flat jobs few =
    let all : min (length jobs) 64 ≡ length jobs = omega arith in
    rw all (ap (map job_of) (take_at (map store jobs) _ (length jobs) (length-map jobs store)) ∙ map-viewed jobs)
  where
    map-viewed : (xs : List Job) → map job_of (map store xs) ≡ xs
    map-viewed [] = refl
    map-viewed (x ∷ xs) = ap (λ (ys : List Job). x ∷ ys) (map-viewed xs)
