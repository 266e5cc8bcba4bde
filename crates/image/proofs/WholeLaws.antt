-- The contents are written before the bodies once these are there.
use Prim.Native.Nat.{ℕ, ◌+◌, ◌-◌, ◌*◌, ◌/◌, ◌≤◌}
use native.Mathlib.Omega.{arith}
use mathlib.Core.Path.{◌≡◌, refl, ap, sym, ◌∙◌}
use mathlib.Core.List.{List, [], ◌∷◌, ◌++◌, append_assoc}
use lib.ListN.{length, length-append, take, drop}
use lib.Seq.{take_at, drop_at, length-take-le, length-sets}
use Rattle.lists.specs.Counts.{each}
use Rattle.writing.specs.Writing.{Wrote}
use Rattle.writing.proofs.WritingLaws.{whole}
use Rattle.state.specs.declared.State.{State}
use Rattle.state.specs.View.{view_state}
use Rattle.image.specs.declared.form.Form.{Form}
use Rattle.image.specs.declared.form.Form.TheVariants.{Narrow, Wide}
use Rattle.image.specs.Form.{body_count}
use Rattle.image.specs.Words.{word_size, words_bytes, words_size}
use Rattle.image.proofs.WordLaws.{length-bytes}
use Rattle.image.specs.BeliefImage.{beliefs_bytes}
use Rattle.image.specs.EventImage.{events_bytes}
use Rattle.image.specs.StackImage.{stacks_bytes}
use Rattle.image.specs.Image.{contents_size, entries_from, counts_bytes, width_bodies, image_as, most_image}
use Rattle.image.specs.Writes.{WritesImage}

-- the contents before what begins behind them
pub headed : {m n : ℕ} {first middle last head bodies : List ℕ} {end next : ℕ} (start : ℕ) → start + m ≤ length first
    → Wrote m first middle start end bodies
    → length head ≡ start → n ≤ start → Wrote n middle last 0 next head → take end last ≡ head ++ bodies
headed {m} {n} {first} {middle} {last} {head} {bodies} {end} {next} start room p full low q =
    let long : length middle ≡ length first = ap length p.bytes ∙ length-sets first start bodies in
    let cut : length (take start first) ≡ start = length-take-le start first (omega arith) in
    let inner : middle ≡ take start first ++ (bodies ++ drop end first) =
    whole room p ∙ append_assoc (take start first) bodies (drop end first) in
    let past : next ≡ start = omega (arith, q.past) in
    let outer : last ≡ head ++ drop start middle = whole (omega arith) q ∙ ap (λ (k : ℕ). head ++ drop k middle) past in
    let rest : drop start middle ≡ bodies ++ drop end first =
    ap (drop start) inner ∙ drop_at (take start first) (bodies ++ drop end first) start cut in
    let all_of : last ≡ (head ++ bodies) ++ drop end first =
    outer ∙ ap (λ (l : List ℕ). head ++ l) rest ∙ sym (append_assoc head bodies (drop end first)) in
    ap (take end) all_of ∙ take_at (head ++ bodies) (drop end first) end (omega (arith, length-append head bodies, p.past))

-- the entries by the places where the bodies end
entries_are : (start : ℕ) (library beliefs events stacks counts : List ℕ) (more : List (List ℕ)) (a b c d e : ℕ)
    → a ≡ start + length library
    → b ≡ a + length beliefs → c ≡ b + length events → d ≡ c + length stacks → e ≡ d + length counts
    → start ∷ (a - start) ∷ a ∷ (b - a) ∷ b ∷ (c - b) ∷ c ∷ (d - c) ∷ d ∷ (e - d) ∷ entries_from e more
    ≡ entries_from start (library ∷ beliefs ∷ events ∷ stacks ∷ counts ∷ more)
entries_are start library beliefs events stacks counts more a b c d e p q r t u =
    let p0 : a - start ≡ length library = omega arith in
    let p2 : b - a ≡ length beliefs = omega arith in
    let p3 : b ≡ start + length library + length beliefs = omega arith in
    let p4 : c - b ≡ length events = omega arith in
    let p5 : c ≡ start + length library + length beliefs + length events = omega arith in
    let p6 : d - c ≡ length stacks = omega arith in
    let p7 : d ≡ start + length library + length beliefs + length events + length stacks = omega arith in
    let p8 : e - d ≡ length counts = omega arith in
    let p9 : e ≡ start + length library + length beliefs + length events + length stacks + length counts = omega arith in
    λ i. start ∷ p0 i ∷ p i ∷ p2 i ∷ p3 i ∷ p4 i ∷ p5 i ∷ p6 i ∷ p7 i ∷ p8 i ∷ entries_from (p9 i) more

module _ (start a b c d e f : ℕ) where
  -- six entries
  abbrev table : List ℕ
  table = start ∷ (a - start) ∷ a ∷ (b - a) ∷ b ∷ (c - b) ∷ c ∷ (d - c) ∷ d ∷ (e - d) ∷ e ∷ (f - e) ∷ []

  -- those that a form has
  entries_in_lem : (form : Form) → f ≡ e + length (each (λ body. body) (width_bodies form))
      → take (word_size * body_count form) table
      ≡ start ∷ (a - start) ∷ a ∷ (b - a) ∷ b ∷ (c - b) ∷ c ∷ (d - c) ∷ d ∷ (e - d) ∷ entries_from e (width_bodies form)
  entries_in_lem Narrow h = refl
  entries_in_lem Wide h =
      let size : f - e ≡ word_size = omega (arith, h) in
      ap (λ (n : ℕ). start ∷ (a - start) ∷ a ∷ (b - a) ∷ b ∷ (c - b) ∷ c ∷ (d - c) ∷ d ∷ (e - d) ∷ e ∷ n ∷ []) size

  contents_are : (form : Form) (library beliefs events stacks counts : List ℕ) → a ≡ start + length library
      → b ≡ a + length beliefs → c ≡ b + length events → d ≡ c + length stacks → e ≡ d + length counts
      → f ≡ e + length (each (λ body. body) (width_bodies form))
      → take (word_size * body_count form) table ≡ entries_from start (library ∷ beliefs ∷ events ∷ stacks ∷ counts ∷ width_bodies form)
  contents_are form library beliefs events stacks counts p q r t u v =
      entries_in_lem form v ∙ entries_are start library beliefs events stacks counts (width_bodies form) a b c d e p q r t u

module _ (form : Form) (library : List ℕ) (s : State) where
  abbrev beliefs : List ℕ
  beliefs = beliefs_bytes (view_state s).beliefs

  abbrev events : List ℕ
  events = events_bytes form (view_state s).queue

  abbrev stacks : List ℕ
  stacks = stacks_bytes form (view_state s).stacks

  abbrev counts : List ℕ
  counts = counts_bytes form s.taken s.made

  abbrev width : List ℕ
  width = each (λ body. body) (width_bodies form)

  abbrev bodies : List ℕ
  bodies = library ++ (beliefs ++ (events ++ (stacks ++ (counts ++ width))))

  -- the whole, by the places where the bodies end
  pub written_image : {m : ℕ} {first middle last : List ℕ} {next : ℕ} (start a b c d e f : ℕ) → start ≡ contents_size form
      → start ≤ contents_size Wide
      → a ≡ start + length library → b ≡ a + length beliefs → c ≡ b + length events → d ≡ c + length stacks → e ≡ d + length counts
      → f ≡ e + length width → start + m ≤ length first → start + m ≤ most_image → Wrote m first middle start f bodies
      → Wrote (words_size (take (start / 2) (table start a b c d e f))) middle last 0 next (words_bytes (take (start / 2) (table start a b c d e f)))
      → WritesImage form library s last f
  unfolding image_as
  written_image {m} {first} {middle} {last} start a b c d e f begins small pa pb pc pd pe pf room few p q =
      let own = take (start / 2) (table start a b c d e f) in
      let words : start / 2 ≡ word_size * body_count form = omega (arith, begins) in
      let entries : own ≡ entries_from (contents_size form) (library ∷ beliefs ∷ events ∷ stacks ∷ counts ∷ width_bodies form) =
      ap (λ (n : ℕ). take n (table start a b c d e f)) words
      ∙ contents_are start a b c d e f form library beliefs events stacks counts pa pb pc pd pe pf
      ∙ ap (λ (n : ℕ). entries_from n (library ∷ beliefs ∷ events ∷ stacks ∷ counts ∷ width_bodies form)) begins in
      let size : length own ≡ start / 2 = length-take-le (start / 2) (table start a b c d e f) (omega (arith, small)) in
      let full : length (words_bytes own) ≡ start = omega (arith, length-bytes own, size, begins) in
      let same : length last ≡ length first =
      ap length q.bytes ∙ length-sets middle 0 (words_bytes own) ∙ ap length p.bytes ∙ length-sets first start bodies in
      record {
        image = headed start room p full (omega (arith, size)) q ∙ ap (λ (w : List ℕ). words_bytes w ++ bodies) entries;
        room = omega (arith, p.within);
        few = omega (arith, p.within);
      }
