-- One change of the belief table, and a list of actions one by one.
use Prim.Native.Nat.{ℕ, suc, ◌+◌, ◌<◌, ◌≤◌, min}
use native.Mathlib.Numerals.{add-one}
use native.Mathlib.Omega.{arith}
use mathlib.Core.Path.{◌≡◌, refl, ap, ap₂, sym, ◌∙◌}
use mathlib.Core.Bool.{Bool, true, false, cond, not, ◌&&◌}
use mathlib.Core.List.{List, [], ◌∷◌, ◌++◌, append-nil, append_assoc}
use lib.ListN.{length, drop, get_or, length-set, drop_of_length-le}
use lib.Seq.{take-suc-set, drop-cons}
use Rattle.lists.specs.Search.{position}
use Rattle.literal.specs.declared.Literal.{Literal}
use Rattle.literal.specs.declared.Env.{Env}
use Rattle.literal.specs.Literal.{is_ground, same, opposite}
use Rattle.belief.specs.declared.Beliefs.{Beliefs}
use Rattle.belief.specs.declared.Change.{Change}
use Rattle.belief.specs.declared.Effect.TheVariants.{Impossible}
use Rattle.belief.specs.declared.Applied.{Applied}
use Rattle.belief.specs.Beliefs.{view, holds, plus, minus, fits, replay}
use Rattle.belief.specs.Table.{fitted, changed, cleared, add, remove_by, remove}
use Rattle.belief.proofs.BeliefLaws.{add-view, add_fitted, add_unfitted, add-changed, add_cleared, add-few, remove-view, replay_join}
use Rattle.library.specs.declared.Action.{Action}
use Rattle.library.specs.Plan.{no_action}
use Rattle.model.specs.Changes.{when, takes_effect, clearing, effective, as_change, effects}
use Rattle.model.proofs.ChangeLaws.{replay-put}
use Rattle.model.specs.Try.{is_possible}
use Rattle.trials.specs.declared.changes.Altered.{Altered}
use Rattle.trials.specs.Altered.{changes_of, untouched, removal, made_by, noted_one, Alters, Within, Extends, Changed}

-- ---- One change

module _ (b : Beliefs) (c : Change) where
  abbrev l : Literal
  l = c.literal

  pub change_open : is_ground c.literal ≡ false → Changed b c (record { table = b; effect = Impossible })
  unfolding is_possible effective replay
  change_open g = record { possible = rw g; effect = rw g; table = rw g; few = λ few. few }

  module _ (len : length b.items ≡ 64) (g : is_ground c.literal ≡ true) where
    -- ---- A removal

    removed_effect : c.removes ≡ true → effective (view b) c ≡ when (holds (view b) l) c
    unfolding effective takes_effect clearing
    removed_effect r =
        ap₂ (λ (x y : Bool). cond (x && cond y (holds (view b) l) (not (holds (view b) l) && fits (view b) l)) (when (not y && holds (view b) (opposite l)) (removal (opposite l)) ++ (c ∷ [])) []) g r
        ∙ go (holds (view b) l)
      where
        go : (held : Bool) → cond held (c ∷ []) [] ≡ when held c
        go true = refl
        go false = refl

    -- by whether it is held
    module _ (r : c.removes ≡ true) where
      removed_by : (held : Bool) → holds (view b) l ≡ held → (place : ℕ) → remove b l ≡ remove_by held place b → Changed b c (remove b l)
      unfolding is_possible replay remove
      removed_by held p place e = record {
        possible = ap (λ (x : Applied). fitted x.effect) e ∙ room held ∙ rw (g, r);
        effect = ap (made_by c) e ∙ made held ∙ ap (λ (q : Bool). when q c) (sym p) ∙ sym (removed_effect r);
        table = table held p ∙ ap (λ (q : Bool). replay (view b) (when q c)) (sym p) ∙ ap (replay (view b)) (sym (removed_effect r));
        few = λ few. rw e (counted held few);
      }
        where
          room : (q : Bool) → fitted (remove_by q place b).effect ≡ true
          room true = refl
          room false = refl

          made : (q : Bool) → made_by c (remove_by q place b) ≡ when q c
          made true = refl
          made false = refl

          counted : (q : Bool) → b.count ≤ 64 → (remove_by q place b).table.count ≤ 64
          counted true few = omega arith
          counted false few = few

          kept : holds (view b) l ≡ false → (remove b l).table ≡ b
          kept q = rw q

          table : (q : Bool) → holds (view b) l ≡ q → view (remove b l).table ≡ replay (view b) (when q c)
          table true q = remove-view b len l ∙ ap (λ (x : Bool). cond x (minus (view b) l) (plus (view b) l)) (sym r)
          table false q = ap view (kept q)

      pub change-removes : Changed b c (remove b l)
      unfolding remove
      change-removes = removed_by (holds (view b) l) refl (position (same l) (view b)) refl

    -- ---- An add

    module _ (r : c.removes ≡ false) where
      -- what it reports, by whether the literal is held and whether it fits
      added_effect : (held room : Bool) → holds (view b) l ≡ held → fits (view b) l ≡ room
          → effective (view b) c ≡ cond (not held && room) (clearing (view b) c ++ (c ∷ [])) []
      unfolding effective takes_effect
      added_effect held room p q = ap (λ (x : Bool). cond x (clearing (view b) c ++ (c ∷ [])) []) counts
        where
          counts : (is_ground l && cond c.removes (holds (view b) l) (not (holds (view b) l) && fits (view b) l)) ≡ (not held && room)
          counts = rw (g, r, p, q)

      added_made : (held room : Bool) → holds (view b) l ≡ held → fitted (add b l).effect ≡ room → made_by c (add b l) ≡ cond (not held && room) (clearing (view b) c ++ (c ∷ [])) []
      unfolding clearing
      added_made held room p q = go held room (add-changed b len l ∙ ap₂ (λ (x y : Bool). x && not y) q p)
        where
          by : Bool → List Change
          by x = cond x (when (cleared (add b l).effect) (removal (opposite l)) ++ (c ∷ [])) []

          go : (held room : Bool) → changed (add b l).effect ≡ (room && not held)
              → made_by c (add b l) ≡ cond (not held && room) (when (not c.removes && holds (view b) (opposite l)) (removal (opposite l)) ++ (c ∷ [])) []
          go true true e = ap by e
          go true false e = ap by e
          go false false e = ap by e
          go false true e =
              ap by e
              ∙ ap (λ (x : Bool). when x (removal (opposite l)) ++ (c ∷ [])) (add_cleared b len l ∙ ap (λ (x : Bool). x && holds (view b) (opposite l)) e ∙ ap (λ (x : Bool). not x && holds (view b) (opposite l)) (sym r))

      added-table : (held room : Bool) → holds (view b) l ≡ held → fitted (add b l).effect ≡ room
          → view (add b l).table ≡ replay (view b) (cond (not held && room) (clearing (view b) c ++ (c ∷ [])) [])
      unfolding replay add
      added-table true room p q = ap view (stays p)
        where
          stays : holds (view b) l ≡ true → (add b l).table ≡ b
          stays e = rw e
      added-table false false p q = ap view (add_unfitted b len l q)
      added-table false true p q = add-view b len l q ∙ sym (replay-put (view b) c r p)

      pub change-adds : Changed b c (add b l)
      unfolding is_possible
      change-adds =
          let held = holds (view b) l in
          let room = fitted (add b l).effect in
          let effect = added_effect held room refl (sym (add_fitted b len l)) in
          record {
            possible = add_fitted b len l ∙ rw (g, r);
            effect = added_made held room refl refl ∙ sym effect;
            table = added-table held room refl refl ∙ ap (replay (view b)) (sym effect);
            few = add-few b len l;
          }

-- ---- A change noted

-- one change behind those noted
noted_more : (t : Altered) (c : Change) → length t.changes ≡ 8 → t.count < 8 → changes_of (noted_one t c) ≡ changes_of t ++ (c ∷ [])
noted_more t c len room =
    let now : min t.count 8 ≡ t.count = omega arith in
    let next : min (t.count + 1) 8 ≡ suc t.count = omega arith in
    rw (next, now) (take-suc-set t.changes t.count c (omega arith))

module _ (t : Altered) (c : Change) (applied : Applied) (h : Changed t.table c applied) (len : length t.changes ≡ 8) (room : t.count + 2 ≤ 8) where
  -- with the table after the change
  abbrev moved : Altered
  moved = record { table = applied.table; changes = t.changes; count = t.count }

  extends : (r : Altered) (changes : List Change) → r.table ≡ applied.table → changes ≡ made_by c applied → changes_of r ≡ changes_of t ++ changes → r.count ≤ t.count + 2
      → Extends t (effective (view t.table) c) r
  extends r changes e m n k = record {
    noted = n ∙ ap (λ (cs : List Change). changes_of t ++ cs) (m ∙ h.effect);
    table = ap view e ∙ h.table;
    few = λ few. rw e (h.few few);
    count = k;
  }

  pub noted_none : changed applied.effect ≡ false → Extends t (effective (view t.table) c) moved
  noted_none p = extends moved [] refl (rw p) (sym (append-nil (changes_of t))) (omega arith)

  pub noted_one_lem : changed applied.effect ≡ true → cleared applied.effect ≡ false → (r : Altered) → r ≡ noted_one moved c → Extends t (effective (view t.table) c) r
  noted_one_lem p q r e = rw e (extends (noted_one moved c) (c ∷ []) refl (rw (p, q)) (noted_more moved c len (omega arith)) (omega arith))

  pub noted_two : changed applied.effect ≡ true → cleared applied.effect ≡ true → (first r : Altered) → first ≡ noted_one moved (removal (opposite c.literal)) → r ≡ noted_one first c
      → Extends t (effective (view t.table) c) r
  noted_two p q first r e f =
      let gone = removal (opposite c.literal) in
      let one = noted_one moved gone in
      let more : length one.changes ≡ 8 = length-set t.changes t.count gone ∙ len in
      rw (f, e) (extends (noted_one one c) (gone ∷ c ∷ []) refl (rw (p, q))
      (noted_more one c more (omega arith) ∙ ap (λ (cs : List Change). cs ++ (c ∷ [])) (noted_more moved gone len (omega arith)) ∙ append_assoc (changes_of t) (gone ∷ []) (c ∷ []))
      (omega arith))

-- what a change noted adds, by what it did
pub ruleset noting = (noted_none, noted_one_lem, noted_two)

-- the first change
pub first-change : (b : Beliefs) (t a : Altered) (c : Change) → t ≡ untouched b → Extends t (effective (view t.table) c) a
    → Alters b (effective (view b) c) a
first-change b t a c e h =
    let first : Extends (untouched b) (effective (view b) c) a = rw e at h in
    record { noted = first.noted; table = first.table; few = first.few; count = omega (arith, first.count) }

-- ---- The counts

pub untouched_within : (b : Beliefs) → b.count ≤ 64 → Within (untouched b)
untouched_within b few = record { table = few; changes = omega arith }

pub altered_within : {b : Beliefs} {changes : List Change} {a : Altered} → Alters b changes a → b.count ≤ 64 → Within a
altered_within h few = record { table = h.few few; changes = h.count }

-- ---- A list of actions

module _ (t u : Altered) (env : Env) (actions : List Action) (i : ℕ) (low : i < length actions)
    (e : Extends t (effective (view t.table) (as_change env (get_or actions i no_action))) u) where
  pub effects-step : changes_of u ++ effects (view u.table) env (drop (i + 1) actions) ≡ changes_of t ++ effects (view t.table) env (drop i actions)
  unfolding effects
  effects-step =
      let now = effective (view t.table) (as_change env (get_or actions i no_action)) in
      ap (λ (bs : List Literal). changes_of u ++ effects bs env (drop (i + 1) actions)) e.table
      ∙ ap (λ (cs : List Change). cs ++ effects (replay (view t.table) now) env (drop (i + 1) actions)) e.noted
      ∙ append_assoc (changes_of t) now (effects (replay (view t.table) now) env (drop (i + 1) actions))
      ∙ ap (λ (n : ℕ). changes_of t ++ (now ++ effects (replay (view t.table) now) env (drop n actions))) (add-one i)
      ∙ ap (λ (rest : List Action). changes_of t ++ effects (view t.table) env rest) (sym (drop-cons actions i no_action low))

  pub effects-kept : (beliefs : List Literal) → view t.table ≡ replay beliefs (changes_of t) → view u.table ≡ replay beliefs (changes_of u)
  effects-kept beliefs h =
      let now = effective (view t.table) (as_change env (get_or actions i no_action)) in
      e.table ∙ ap (λ (bs : List Literal). replay bs now) h ∙ sym (replay_join beliefs (changes_of t) now) ∙ ap (replay beliefs) (sym e.noted)

-- past the last action
pub effects_done : (beliefs : List Literal) (env : Env) (actions : List Action) (i : ℕ) → length actions ≤ i → effects beliefs env (drop i actions) ≡ []
unfolding effects
effects_done beliefs env actions i h = ap (effects beliefs env) (drop_of_length-le actions {i = i} h)
