-- Two pages that are the same show the same: each line is cut into its fields, and each field read back.
use Prim.Native.Nat.{ℕ, zero, suc, ◌+◌, ◌-◌, ◌*◌, ◌<◌}
use native.Mathlib.Nat.{mul-suc}
use native.Mathlib.Omega.{arith}
use mathlib.Core.Path.{◌≡◌, refl, ap, ap₂, sym, ◌∙◌}
use mathlib.Core.Bool.{Bool, true, false, ◌||◌}
use mathlib.Core.List.{List, [], ◌∷◌, ◌++◌, map, append_assoc}
use lib.Dec.{eqb, lit<}
use lib.ListN.{length, length-append, get_or, get_or-map, drop, replicate}
use borrow.Author.Tests.{eqb-true, leb-true}
use Rattle.std.specs.List.{list_all}
use Rattle.lists.specs.Counts.{each, total}
use Rattle.lists.proofs.BoolLaws.{and_parts}
use Rattle.lists.proofs.AllLaws.{all_at}
use Rattle.literal.specs.Literal.{first_variable, is_constant}
use Rattle.literal.specs.Environment.{are_entries, is_env}
use Rattle.model.specs.declared.Status.{Status}
use Rattle.model.specs.declared.Status.TheVariants.{Active, Waiting, Suspended}
use Rattle.printing.specs.Decimal.{decimal, last_digit, value}
use Rattle.printing.proofs.DecimalLaws.{value-decimal}
use Rattle.board.specs.Columns.{cells}
use Rattle.board.specs.Page.{Field, field, number, status_letter, letter, entry, aligned, fits, after, Row, fields_of, line_text, line_bytes}
use Rattle.board.proofs.ColumnLaws.{length-aligned, aligned-fits, number-cells}
use Rattle.board.proofs.FitLaws.{entry-fits, is_fitting}

-- ---- A field read back

spaces-value : (k : ℕ) (text : List ℕ) → value (replicate k 32 ++ text) ≡ value text
spaces-value zero text = refl
spaces-value (suc k) text = spaces-value k text

number-value : (width n : ℕ) → fits (number width n) ≡ true → value (aligned (number width n)) ≡ n
number-value width n fit =
    ap value (aligned-fits width (decimal n) (leb-true _ _ fit)) ∙ spaces-value (width - length (decimal n)) (decimal n) ∙ value-decimal n

number_same : (width m n : ℕ) → fits (number width m) ≡ true → fits (number width n) ≡ true → aligned (number width m) ≡ aligned (number width n) → m ≡ n
number_same width m n f g e = sym (number-value width m f) ∙ ap value e ∙ number-value width n g

status_same : (s t : Status) → status_letter s ≡ status_letter t → s ≡ t
status_same Active Active e = refl
status_same Active Waiting e = absurd (omega arith)
status_same Active Suspended e = absurd (omega arith)
status_same Waiting Active e = absurd (omega arith)
status_same Waiting Waiting e = refl
status_same Waiting Suspended e = absurd (omega arith)
status_same Suspended Active e = absurd (omega arith)
status_same Suspended Waiting e = absurd (omega arith)
status_same Suspended Suspended e = refl

letter_same : (s t : Status) → aligned (letter s) ≡ aligned (letter t) → s ≡ t
unfolding aligned
letter_same s t e = status_same s t (ap (λ (l : List ℕ). get_or l 0 0) e)

-- a number ends in a digit, and not in a hyphen
no_hyphen : {P : Type 0} (n : ℕ) → aligned (number 5 n) ≡ aligned (field 5 (45 ∷ [])) → P
unfolding aligned cells
no_hyphen n e = let digit : last_digit n ≡ 45 = ap (λ (l : List ℕ). get_or l 4 0) (number-cells 4 n ∙ e) in absurd (omega arith)

-- an entry is a constant or the variable itself, so that its text tells it
entry_same : (variable s t : ℕ) → (is_constant s || eqb s variable) ≡ true → (is_constant t || eqb t variable) ≡ true
    → aligned (entry s) ≡ aligned (entry t) → s ≡ t
entry_same variable s t p q e = go (is_constant s) (is_constant t) refl refl
  where
    go : (a b : Bool) → is_constant s ≡ a → is_constant t ≡ b → s ≡ t
    go true true x y = number_same 5 s t (rw x at (entry-fits s)) (rw y at (entry-fits t)) (rw (x, y) at e)
    go true false x y = no_hyphen s (rw (x, y) at e)
    go false true x y = no_hyphen t (sym (rw (x, y) at e))
    go false false x y = eqb-true s variable (rw x at p) ∙ sym (eqb-true t variable (rw y at q))

entries_same : (variable : ℕ) (ss ts : List ℕ) → are_entries variable ss ≡ true → are_entries variable ts ≡ true
    → map aligned (map entry ss) ≡ map aligned (map entry ts) → ss ≡ ts
unfolding are_entries
entries_same variable [] [] p q e = refl
entries_same variable [] (t ∷ ts) p q e = absurd (omega (arith, ap length e))
entries_same variable (s ∷ ss) [] p q e = absurd (omega (arith, ap length e))
entries_same variable (s ∷ ss) (t ∷ ts) p q e =
    let a = and_parts (is_constant s || eqb s variable) (are_entries (suc variable) ss) p in
    let b = and_parts (is_constant t || eqb t variable) (are_entries (suc variable) ts) q in
    ap₂ (λ (h : ℕ) (r : List ℕ). h ∷ r) (entry_same variable s t a.0 b.0 (ap (λ (l : List (List ℕ)). get_or l 0 []) e))
    (entries_same (suc variable) ss ts a.1 b.1 (ap (drop 1) e))

-- ---- A text cut into fields of given widths

cut : {A : Type 0} (a c b d : List A) → length a ≡ length c → a ++ b ≡ c ++ d → (a ≡ c) × (b ≡ d)
cut [] [] b d e same = (refl, same)
cut [] (y ∷ c) b d e same = absurd (omega arith)
cut (x ∷ a) [] b d e same = absurd (omega arith)
cut (x ∷ a) (y ∷ c) b d e same =
    let head : x ≡ y = cc in
    let rest : a ++ b ≡ c ++ d = cc in
    let parts = cut a c b d (omega arith) rest in
    (ap₂ (λ h t. h ∷ t) head parts.0, parts.1)

abbrev widths : List Field → List ℕ
widths fields = map (λ f. f.width) fields

fields_same : (fs gs : List Field) (a b : List ℕ) → widths fs ≡ widths gs → each after fs ++ a ≡ each after gs ++ b → map aligned fs ≡ map aligned gs
fields_same [] [] a b w e = refl
fields_same [] (g ∷ gs) a b w e = absurd (omega (arith, ap length w))
fields_same (f ∷ fs) [] a b w e = absurd (omega (arith, ap length w))
fields_same (f ∷ fs) (g ∷ gs) a b w e =
    let width : f.width ≡ g.width = ap (λ (l : List ℕ). get_or l 0 0) w in
    let long : length (after f) ≡ length (after g) = ap suc (length-aligned f ∙ width ∙ sym (length-aligned g)) in
    let joined : after f ++ (each after fs ++ a) ≡ after g ++ (each after gs ++ b)
    = sym (append_assoc (after f) (each after fs) a) ∙ e ∙ append_assoc (after g) (each after gs) b in
    let parts = cut (after f) (after g) (each after fs ++ a) (each after gs ++ b) long joined in
    ap₂ (λ (h : List ℕ) (r : List (List ℕ)). h ∷ r) (ap (drop 1) parts.0) (fields_same fs gs a b (ap (drop 1) w) parts.1)

entry-widths : (ss ts : List ℕ) → length ss ≡ length ts → widths (map entry ss) ≡ widths (map entry ts)
entry-widths [] [] e = refl
entry-widths [] (t ∷ ts) e = absurd (omega arith)
entry-widths (s ∷ ss) [] e = absurd (omega arith)
entry-widths (s ∷ ss) (t ∷ ts) e = ap (λ (l : List ℕ). 5 ∷ l) (entry-widths ss ts (omega arith))

-- ---- A line

abbrev eight : Row → Type 0
eight row = length row.instance.env.terms ≡ 8

fitting_env : (row : Row) → is_fitting row ≡ true → eight row × (are_entries first_variable row.instance.env.terms ≡ true)
unfolding is_env
fitting_env row f =
    let env = (and_parts (list_all fits (fields_of row)) _ f).1 in
    let parts = and_parts (eqb (length row.instance.env.terms) 8) _ env in
    (eqb-true _ 8 parts.0, parts.1)

-- its fields, each after a space
spaced-line : (row : Row) → 32 ∷ line_text row ≡ each after (fields_of row) ++ (10 ∷ [])
unfolding line_text fields_of
spaced-line row = refl

fields-length : (fs : List Field) → length (each after fs) ≡ total (λ f. suc f.width) fs
fields-length [] = refl
fields-length (f ∷ fs) = length-append (after f) (each after fs) ∙ omega (arith, length-aligned f, fields-length fs)

entries-length : (terms : List ℕ) → total (λ f. suc f.width) (map entry terms) ≡ 6 * length terms
entries-length [] = refl
entries-length (t ∷ terms) = rw mul-suc (omega (arith, entries-length terms))

-- 72 characters and a newline
pub length-line : (row : Row) → is_fitting row ≡ true → length (line_text row) ≡ line_bytes
unfolding fields_of
length-line row f =
    let terms = row.instance.env.terms in
    let size : total (λ g. suc g.width) (fields_of row) ≡ 25 + 6 * length terms = ap (λ (n : ℕ). 2 + (2 + (11 + (3 + (3 + (2 + (2 + n))))))) (entries-length terms) ∙ omega arith in
    omega (
      arith,
      ap length (spaced-line row),
      length-append (each after (fields_of row)) (10 ∷ []),
      fields-length (fields_of row),
      size,
      (fitting_env row f).0,
    )

field_fits : (row : Row) → is_fitting row ≡ true → (i : ℕ) → i < 7 → fits (get_or (fields_of row) i (letter Active)) ≡ true
unfolding fields_of
field_fits row f i low = all_at fits (fields_of row) i (letter Active) (and_parts (list_all fits (fields_of row)) _ f).0 (omega arith)

module _ (r q : Row) (f : is_fitting r ≡ true) (g : is_fitting q ≡ true) where
  line-fields : line_text r ≡ line_text q → map aligned (fields_of r) ≡ map aligned (fields_of q)
  unfolding fields_of
  line-fields e =
      let same = entry-widths r.instance.env.terms q.instance.env.terms ((fitting_env r f).0 ∙ sym (fitting_env q g).0) in
      fields_same (fields_of r) (fields_of q) (10 ∷ []) (10 ∷ []) (ap (λ (l : List ℕ). 1 ∷ 1 ∷ 10 ∷ 2 ∷ 2 ∷ 1 ∷ 1 ∷ l) same)
      (sym (spaced-line r) ∙ ap (λ (l : List ℕ). 32 ∷ l) e ∙ spaced-line q)

  -- the number at a place of both
  number_at_lem : map aligned (fields_of r) ≡ map aligned (fields_of q) → (i width m n : ℕ) → i < 7
      → get_or (fields_of r) i (letter Active) ≡ number width m → get_or (fields_of q) i (letter Active) ≡ number width n → m ≡ n
  number_at_lem fields i width m n low here there =
      let aligned-same : aligned (get_or (fields_of r) i (letter Active)) ≡ aligned (get_or (fields_of q) i (letter Active))
      = sym (get_or-map aligned (fields_of r) i (letter Active)) ∙ ap (λ (l : List (List ℕ)). get_or l i (aligned (letter Active))) fields
      ∙ get_or-map aligned (fields_of q) i (letter Active) in
      number_same width m n (rw here at (field_fits r f i low)) (rw there at (field_fits q g i low)) (rw (here, there) at aligned-same)

  pub line_same : line_text r ≡ line_text q → r ≡ q
  unfolding fields_of
  line_same e =
      let fields = line-fields e in
      let x = r.instance in
      let y = q.instance in
      let stack = number_at_lem fields 0 1 r.stack q.stack (lit< tt) refl refl in
      let height = number_at_lem fields 1 1 r.height q.height (lit< tt) refl refl in
      let id = number_at_lem fields 2 10 x.id y.id (lit< tt) refl refl in
      let plan = number_at_lem fields 3 2 x.plan y.plan (lit< tt) refl refl in
      let state = number_at_lem fields 4 2 x.state y.state (lit< tt) refl refl in
      let tried = number_at_lem fields 5 1 x.tried y.tried (lit< tt) refl refl in
      let status = letter_same x.status y.status (ap (λ (l : List (List ℕ)). get_or l 6 []) fields) in
      let terms = entries_same first_variable x.env.terms y.env.terms (fitting_env r f).1 (fitting_env q g).1 (ap (drop 7) fields) in
      λ i. record {
        stack = stack i;
        height = height i;
        instance = record { id = id i; plan = plan i; env = record { terms = terms i }; state = state i; tried = tried i; status = status i };
      }

-- ---- A page

-- 73 bytes for each row
pub length-lines : (rows : List Row) → list_all is_fitting rows ≡ true → length (each line_text rows) ≡ line_bytes * length rows
length-lines [] f = refl
length-lines (r ∷ rows) f =
    let parts = and_parts (is_fitting r) (list_all is_fitting rows) f in
    length-append (line_text r) (each line_text rows) ∙ rw mul-suc (omega (arith, length-line r parts.0, length-lines rows parts.1))

pub lines_same : (rs qs : List Row) → list_all is_fitting rs ≡ true → list_all is_fitting qs ≡ true → each line_text rs ≡ each line_text qs → rs ≡ qs
lines_same [] [] f g e = refl
lines_same [] (q ∷ qs) f g e =
    absurd (omega (arith, ap length e, length-append (line_text q) (each line_text qs), length-line q (and_parts (is_fitting q) _ g).0))
lines_same (r ∷ rs) [] f g e =
    absurd (omega (arith, ap length e, length-append (line_text r) (each line_text rs), length-line r (and_parts (is_fitting r) _ f).0))
lines_same (r ∷ rs) (q ∷ qs) f g e =
    let a = and_parts (is_fitting r) (list_all is_fitting rs) f in
    let b = and_parts (is_fitting q) (list_all is_fitting qs) g in
    let parts = cut (line_text r) (line_text q) (each line_text rs) (each line_text qs) (length-line r a.0 ∙ sym (length-line q b.0)) e in
    ap₂ (λ (h : Row) (t : List Row). h ∷ t) (line_same r q a.0 b.0 parts.0) (lines_same rs qs a.1 b.1 parts.1)
