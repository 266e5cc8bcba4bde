-- What the board of a well-formed agent is: 73 bytes for each live instance, and no other rows have its bytes.
use Prim.Native.Nat.{ℕ, suc, ◌*◌, ◌<◌, ◌≤◌}
use native.Mathlib.Omega.{arith}
use mathlib.Core.Path.{◌≡◌, refl, ap, sym, ◌∙◌}
use mathlib.Core.Bool.{true, false}
use mathlib.Core.List.{List, [], ◌∷◌, ◌++◌, map, map-append, reverse, reverse-cons}
use lib.Dec.{leb}
use lib.ListN.{length, length-append, take, drop, length-take}
use lib.Seq.{take_at}
use borrow.Author.Tests.{le-leb, lt-leb, leb-true}
use Rattle.std.specs.Prelude.{Ok, Err}
use Rattle.std.specs.List.{list_all}
use Rattle.refusals.specs.declared.Refusal.{Refusal}
use Rattle.lists.specs.Counts.{each}
use Rattle.lists.proofs.BoolLaws.{by_cases, and_parts}
use Rattle.library.specs.Layout.{library_of}
use Rattle.belief.specs.Beliefs.{are_beliefs}
use Rattle.model.specs.State.{most_number, most_stacks, Intention}
use Rattle.model.specs.declared.Instance.{Instance}
use Rattle.model.specs.Live.{jobs_on, jobs_of, live}
use Rattle.model.specs.WellFormed.{is_well_formed, are_events, is_instance, are_instances, is_stack}
use Rattle.state.specs.declared.Stack.{Stack}
use Rattle.state.specs.declared.State.{State}
use Rattle.state.specs.View.{view_stack, view_state, stacked_of, view_stacks}
use Rattle.jobs.proofs.FlatLaws.{live-few}
use Rattle.formed.proofs.WellFormedLaws.{test_parts}
use Rattle.load.specs.declared.Agent.{Agent}
use Rattle.load.specs.Load.{bytes_of, is_well_formed_agent}
use Rattle.writing.proofs.WritingLaws.{whole}
use Rattle.board.specs.Page.{line_bytes, rows_on, rows_from, rows_of, page_of}
use Rattle.board.specs.Board.{rows_of_agent, board_of, most_board, board_refusal, Boards}
use Rattle.board.proofs.PageLaws.{length-rows}
use Rattle.board.proofs.FitLaws.{is_fitting, stacks_fit}
use Rattle.board.proofs.InjectiveLaws.{length-lines, lines_same}

-- ---- A row for each live instance

length-jobs : (external : ℕ) (xs : List Instance) → length (jobs_on external xs) ≡ length xs
unfolding jobs_on
length-jobs external [] = refl
length-jobs external (x ∷ below) = ap suc (length-jobs external below)

rows-live : (number : ℕ) (stacks : List Intention) → length (rows_from number stacks) ≡ length (live stacks)
unfolding rows_from live
rows-live number [] = refl
rows-live number (stack ∷ stacks) =
    let xs = stack.top ∷ stack.below in
    length-append (rows_on number xs) (rows_from (suc number) stacks)
    ∙ omega (arith, length-rows number xs, length-jobs stack.external xs, rows-live (suc number) stacks, length-append (jobs_of stack) (each jobs_of stacks))

-- the rows of a stack show its live instances, which the model has from the top down: the bottom first
pub rows-shown : (number external : ℕ) (xs : List Instance)
    → map (λ row. row.instance) (rows_on number xs) ≡ reverse (map (λ job. job.instance) (jobs_on external xs))
unfolding rows_on jobs_on
rows-shown number external [] = refl
rows-shown number external (x ∷ below) =
    map-append (λ row. row.instance) (rows_on number below) (record { stack = number; height = suc (length below); instance = x } ∷ [])
    ∙ ap (λ (l : List Instance). l ++ (x ∷ [])) (rows-shown number external below)
    ∙ sym (reverse-cons x (map (λ job. job.instance) (jobs_on external below)))

-- ---- A well-formed agent

module _ (a : Agent) (formed : is_well_formed_agent a ≡ true) where
  -- no field is cut
  pub rows_fit : list_all is_fitting (rows_of_agent a) ≡ true
  unfolding is_well_formed are_instances
  rows_fit =
      let w = test_parts a.library a.length a.state formed in
      let s = view_state a.state in
      let library = library_of (bytes_of a) in
      let taken = and_parts (leb s.taken most_number) _ (and_parts (are_beliefs s.beliefs) _ w.formed).1 in
      let made = and_parts (leb s.made most_number) _ taken.1 in
      let instances = and_parts (are_instances library s.made (live s.stacks)) _ (and_parts (are_events library s.taken s.queue) _ made.1).1 in
      let few = and_parts (leb (length s.stacks) most_stacks) _ instances.1 in
      let stacks = (and_parts (list_all is_stack s.stacks) _ few.1).0 in
      let sound = (and_parts (list_all (is_instance library s.made) (live s.stacks)) _ instances.0).0 in
      let small = leb-true (length s.stacks) most_stacks few.0 in
      stacks_fit (bytes_of a) w.accepted s.made (leb-true s.made most_number made.0) 1 s.stacks (omega (arith, small)) stacks sound

  -- 73 bytes for each live instance
  pub board-length : length (board_of a) ≡ line_bytes * length (live (view_stacks a.state))
  unfolding page_of
  board-length = length-lines (rows_of_agent a) rows_fit ∙ ap (λ (n : ℕ). line_bytes * n) (rows-live 1 (view_stacks a.state))

-- agents whose live instances differ in what a line shows have different boards
pub boards_differ : (a b : Agent) → is_well_formed_agent a ≡ true → is_well_formed_agent b ≡ true → board_of a ≡ board_of b → rows_of_agent a ≡ rows_of_agent b
unfolding page_of
boards_differ a b f g same = lines_same (rows_of_agent a) (rows_of_agent b) (rows_fit a f) (rows_fit b g) same

-- ---- The call

-- eight stacks of eight
pub lines-few : (s : State) → length (live (view_stacks s)) ≤ 64
lines-few s = omega (arith, live-few (take (stacked_of s) s.stacks), length-take (stacked_of s) s.stacks)

-- the live instances of the stacks in use are the state's
pub lines-counted : (s : State) {stacks : List Stack} {lines : ℕ} → stacks ≡ take (stacked_of s) s.stacks
    → lines ≡ length (live (map view_stack stacks)) → lines ≡ length (live (view_stacks s))
lines-counted s e counted = counted ∙ ap (λ (stacks : List Stack). length (live (map view_stack stacks))) e

-- a buffer for the longest board is never too short
pub room_enough : (a : Agent) (room : ℕ) → is_well_formed_agent a ≡ true → most_board ≤ room → board_refusal a room ≡ 0
unfolding board_refusal
room_enough a room formed enough =
    let fits : leb (length (board_of a)) room ≡ true
    = le-leb (length (board_of a)) room (omega (arith, enough, board-length a formed, lines-few a.state)) in
    rw (formed, fits)

pub page_room : (s : State) (lines room : ℕ) → lines ≡ length (live (view_stacks s)) → line_bytes * lines ≤ room → line_bytes * length (rows_of (view_stacks s)) ≤ room
page_room s lines room all_lines enough = omega (arith, rows-live 1 (view_stacks s))

module _ (a : Agent) (formed : is_well_formed_agent a ≡ true) (lines : ℕ) (all_lines : lines ≡ length (live (view_stacks a.state))) where
  pub short : (bytes : List ℕ) → length bytes < line_bytes * lines → 14 ≡ board_refusal a (length bytes)
  unfolding board_refusal
  short bytes less =
      let less-room : leb (length (board_of a)) (length bytes) ≡ false = lt-leb (length (board_of a)) (length bytes) (omega (arith, board-length a formed)) in
      rw (formed, less-room)

  pub enough : (bytes : List ℕ) → line_bytes * lines ≤ length bytes → board_refusal a (length bytes) ≡ 0
  unfolding board_refusal
  enough bytes room =
      let fits : leb (length (board_of a)) (length bytes) ≡ true = le-leb (length (board_of a)) (length bytes) (omega (arith, board-length a formed)) in
      rw (formed, fits)

-- ---- What the contract says, place by place

module _ (a : Agent) (before after : List ℕ) where
  -- an accepted call writes the board of a well-formed agent, and every byte past it is as it was
  pub accepted : (n : ℕ) → Boards a before after (Ok n)
      → (is_well_formed_agent a ≡ true) × (n ≡ length (board_of a)) × (after ≡ board_of a ++ drop n before)
  unfolding board_refusal
  accepted n shown = (
    by_cases (is_well_formed_agent a) (λ (formed : is_well_formed_agent a ≡ true). formed)
        (λ (ill : is_well_formed_agent a ≡ false). let ten : ◌≡◌ {A = ℕ} 0 10 = sym shown.accepted ∙ rw ill in absurd (omega arith)),
    omega (arith, shown.page.past),
    whole (omega arith) shown.page,
  )

  -- a refused one writes nothing
  pub refused : (e : Refusal) → Boards a before after (Err e) → after ≡ before
  refused e unshown = unshown.unwritten

-- what two accepted calls wrote is the same only where every line shows the same
pub written_differ : (a b : Agent) (before after before' after' : List ℕ) (m n : ℕ) → Boards a before after (Ok m)
    → Boards b before' after' (Ok n) → take m after ≡ take n after' → rows_of_agent a ≡ rows_of_agent b
written_differ a b before after before' after' m n r q same =
    let first = accepted a before after m r in
    let second = accepted b before' after' n q in
    let one : take m after ≡ board_of a = ap (take m) first.2 ∙ take_at (board_of a) (drop m before) m (sym first.1) in
    let other : take n after' ≡ board_of b = ap (take n) second.2 ∙ take_at (board_of b) (drop n before') n (sym second.1) in
    boards_differ a b first.0 second.0 (sym one ∙ same ∙ other)
