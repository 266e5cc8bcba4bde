-- Two lines with one text are one line: the fields and the changes are read back one after the other.
use Prim.Native.Nat.{ℕ, ◌≤◌, ◌<◌}
use native.Mathlib.Omega.{arith}
use mathlib.Core.Path.{◌≡◌, refl, sym, ap, ap₂, ◌∙◌}
use mathlib.Core.Bool.{Bool, true, false, cond}
use mathlib.Core.List.{List, [], ◌∷◌, ◌++◌, tail, map, append_assoc}
use lib.Dec.{eqb, ltb}
use lib.ListN.{get_or}
use borrow.Author.Tests.{ne_eqb}
use Rattle.std.specs.List.{list_all}
use Rattle.lists.specs.Counts.{each}
use Rattle.lists.proofs.BoolLaws.{by_cases, and_parts, and_both}
use Rattle.literal.specs.declared.Literal.{Literal}
use Rattle.literal.specs.Literal.{negative}
use Rattle.belief.specs.declared.Change.{Change}
use Rattle.model.specs.Lines.{Letter, T, I, N, U, M, S, B, D, G, E, F, X, Field, number, e, g, literal, Line}
use Rattle.printing.specs.LineText.{newline, letter_byte, sign_byte, literal_text, field_text, change_text, line_text, fits_field, fits_change, fits_line}
use Rattle.printing.proofs.ReadBack.{Stops, number_at, after_number, number_at_lem, after-number, number_starts, literal_at, after_literal, literal_at_lem, after-literal}

-- ---- What stands after the letter: a field or a change

data Item : Type 0 where
  field : Field → Item
  change : Change → Item

item_text : Item → List ℕ
item_text (field f) = field_text f
item_text (change c) = change_text c

fits_item : Item → Bool
fits_item (field f) = fits_field f
fits_item (change c) = fits_change c

-- an item, and the text after it
record Read : Type 0 where
  item : Item
  rest : List ℕ

abbrev read : Item → List ℕ → Read
read i s = record { item = i; rest = s }

abbrev read_number : List ℕ → Read
read_number text = read (field (number (number_at text))) (after_number text)

abbrev read_literal : List ℕ → Read
read_literal text = read (field (literal (literal_at text))) (after_literal text)

abbrev read_change : Bool → List ℕ → Read
read_change removes text = read (change (record { removes = removes; literal = literal_at text })) (after_literal text)

-- by the byte after the space: e, g, a, r, + or -, else a digit
read_by : ℕ → List ℕ → Read
read_by b text =
    cond (eqb b 101) (read (field e) (tail (tail text)))
    (cond (eqb b 103) (read (field g) (tail (tail text)))
    (cond (eqb b 97) (read_change false (tail (tail text)))
    (cond (eqb b 114) (read_change true (tail (tail text))) (cond (eqb b 43) (read_literal text) (cond (eqb b 45) (read_literal text) (read_number text))))))

read_item : List ℕ → Read
read_item text = read_by (get_or text 1 0) text

read_number_lem : (b : ℕ) (text : List ℕ) → 48 ≤ b → b < 58 → read_by b text ≡ read_number text
unfolding read_by
read_number_lem b text low high =
    rw (
      ne_eqb b 101 (λ same. omega arith),
      ne_eqb b 103 (λ same. omega arith),
      ne_eqb b 97 (λ same. omega arith),
      ne_eqb b 114 (λ same. omega arith),
      ne_eqb b 43 (λ same. omega arith),
      ne_eqb b 45 (λ same. omega arith),
    )

read_sign : (head : ℕ) (text : List ℕ) → read_by (sign_byte head) text ≡ read_literal text
unfolding read_by
read_sign head text = by_cases (ltb head negative) (λ p. rw p) (λ p. rw p)

sign_second : (l : Literal) (s : List ℕ) → get_or (literal_text l ++ s) 1 0 ≡ sign_byte l.head
unfolding literal_text
sign_second l s = refl

read-item : (i : Item) (s : List ℕ) → fits_item i ≡ true → Stops s → read_item (item_text i ++ s) ≡ read i s
unfolding read_item item_text fits_item field_text change_text read_by
read-item (field (number n)) s fit h =
    let b = number_starts n s in
    read_number_lem (get_or (field_text (number n) ++ s) 1 0) _ b.0 b.1
    ∙ ap₂ (λ k t. read (field (number k)) t) (number_at_lem n s h) (after-number n s h)
read-item (field e) s fit h = refl
read-item (field g) s fit h = refl
read-item (field (literal l)) s fit h =
    ap (λ b. read_by b (literal_text l ++ s)) (sign_second l s) ∙ read_sign l.head _
    ∙ ap₂ (λ k t. read (field (literal k)) t) (literal_at_lem l s h fit) (after-literal l s h)
read-item (change c) s fit h = by_cases c.removes (by true) (by false)
  where
    by : (removes : Bool) → c.removes ≡ removes → read_item (change_text c ++ s) ≡ read (change c) s
    by true same = rw same (ap₂ (λ k t. read (change (record { removes = true; literal = k })) t) (literal_at_lem c.literal s h fit) (after-literal c.literal s h))
    by false same = rw same (ap₂ (λ k t. read (change (record { removes = false; literal = k })) t) (literal_at_lem c.literal s h fit) (after-literal c.literal s h))

-- ---- A list of items, then the newline

items_text : List Item → List ℕ
items_text items = each item_text items ++ (newline ∷ [])

-- an item begins with a space
item_starts : (i : Item) (s : List ℕ) → get_or (item_text i ++ s) 0 0 ≡ 32
unfolding item_text field_text change_text literal_text
item_starts (field (number n)) s = refl
item_starts (field e) s = refl
item_starts (field g) s = refl
item_starts (field (literal l)) s = refl
item_starts (change c) s = refl

items_cons : (i : Item) (items : List Item) → items_text (i ∷ items) ≡ item_text i ++ items_text items
unfolding items_text
items_cons i items = append_assoc (item_text i) (each item_text items) (newline ∷ [])

items-start : (i : Item) (items : List Item) → get_or (items_text (i ∷ items)) 0 0 ≡ 32
items-start i items = ap (λ t. get_or t 0 0) (items_cons i items) ∙ item_starts i (items_text items)

starts_stop : (text : List ℕ) → get_or text 0 0 < 48 → Stops text
starts_stop [] h = tt
starts_stop (b ∷ text) h = h

items_stop : (items : List Item) → Stops (items_text items)
unfolding items_text
items_stop [] = omega arith
items_stop (i ∷ items) = starts_stop (items_text (i ∷ items)) (omega (arith, items-start i items))

newline_starts : get_or (items_text []) 0 0 ≡ 10
unfolding items_text
newline_starts = refl

items_injective : (xs ys : List Item) → list_all fits_item xs ≡ true → list_all fits_item ys ≡ true → items_text xs ≡ items_text ys → xs ≡ ys
items_injective [] [] p q same = refl
items_injective [] (y ∷ ys) p q same = absurd (omega (arith, newline_starts, ap (λ t. get_or t 0 0) same, items-start y ys))
items_injective (x ∷ xs) [] p q same = absurd (omega (arith, newline_starts, ap (λ t. get_or t 0 0) same, items-start x xs))
items_injective (x ∷ xs) (y ∷ ys) p q same =
    let a = and_parts (fits_item x) _ p in
    let b = and_parts (fits_item y) _ q in
    let reads : read x (items_text xs) ≡ read y (items_text ys)
    = sym (read-item x (items_text xs) a.0 (items_stop xs)) ∙ ap read_item (sym (items_cons x xs) ∙ same ∙ items_cons y ys)
    ∙ read-item y (items_text ys) b.0 (items_stop ys) in
    ap₂ (λ z zs. z ∷ zs) (ap (λ r. r.item) reads) (items_injective xs ys a.1 b.1 (ap (λ r. r.rest) reads))

-- ---- The items of a line

items_of : List Field → List Change → List Item
items_of fields changes = map field fields ++ map change changes

fields_in : List Item → List Field
fields_in [] = []
fields_in (field f ∷ items) = f ∷ fields_in items
fields_in (change c ∷ items) = fields_in items

changes_in : List Item → List Change
changes_in [] = []
changes_in (field f ∷ items) = changes_in items
changes_in (change c ∷ items) = c ∷ changes_in items

fields_in_lem : (fields : List Field) (changes : List Change) → fields_in (items_of fields changes) ≡ fields
unfolding items_of fields_in
fields_in_lem [] [] = refl
fields_in_lem [] (c ∷ changes) = fields_in_lem [] changes
fields_in_lem (f ∷ fields) changes = ap (λ fs. f ∷ fs) (fields_in_lem fields changes)

changes_in_lem : (fields : List Field) (changes : List Change) → changes_in (items_of fields changes) ≡ changes
unfolding items_of changes_in
changes_in_lem [] [] = refl
changes_in_lem [] (c ∷ changes) = ap (λ cs. c ∷ cs) (changes_in_lem [] changes)
changes_in_lem (f ∷ fields) changes = changes_in_lem fields changes

items_fit : (fields : List Field) (changes : List Change) → list_all fits_field fields ≡ true → list_all fits_change changes ≡ true → list_all fits_item (items_of fields changes) ≡ true
unfolding items_of fits_item
items_fit [] [] p q = refl
items_fit [] (c ∷ changes) p q = let b = and_parts (fits_change c) _ q in and_both (fits_change c) _ b.0 (items_fit [] changes p b.1)
items_fit (f ∷ fields) changes p q = let a = and_parts (fits_field f) _ p in and_both (fits_field f) _ a.0 (items_fit fields changes a.1 q)

-- the line's text is its letter, then the text of its items
line-items : (line : Line) → line_text line ≡ letter_byte line.letter ∷ items_text (items_of line.fields line.changes)
unfolding line_text items_text items_of item_text
line-items line = ap (λ t. letter_byte line.letter ∷ t) (go line.fields line.changes)
  where
    go : (fields : List Field) (changes : List Change)
        → each field_text fields ++ (each change_text changes ++ (newline ∷ [])) ≡ each item_text (items_of fields changes) ++ (newline ∷ [])
    go [] [] = refl
    go [] (c ∷ changes) = append_assoc (change_text c) (each change_text changes) (newline ∷ []) ∙ ap (λ t. change_text c ++ t) (go [] changes)
        ∙ sym (append_assoc (change_text c) (each item_text (items_of [] changes)) (newline ∷ []))
    go (f ∷ fields) changes = append_assoc (field_text f) (each field_text fields) _ ∙ ap (λ t. field_text f ++ t) (go fields changes)
        ∙ sym (append_assoc (field_text f) (each item_text (items_of fields changes)) (newline ∷ []))

-- ---- Letters and answers

letter_at : ℕ → Letter
letter_at b =
    cond (eqb b 84) T (cond (eqb b 73) I (cond (eqb b 78) N (cond (eqb b 85) U (cond (eqb b 77) M (cond (eqb b 83) S
    (cond (eqb b 66) B (cond (eqb b 68) D (cond (eqb b 71) G (cond (eqb b 69) E (cond (eqb b 70) F X))))))))))

letter_at_lem : (letter : Letter) → letter_at (letter_byte letter) ≡ letter
unfolding letter_at
letter_at_lem T = refl
letter_at_lem I = refl
letter_at_lem N = refl
letter_at_lem U = refl
letter_at_lem M = refl
letter_at_lem S = refl
letter_at_lem B = refl
letter_at_lem D = refl
letter_at_lem G = refl
letter_at_lem E = refl
letter_at_lem F = refl
letter_at_lem X = refl

-- two lines with one text are one line
pub line_injective : (k l : Line) → fits_line k ≡ true → fits_line l ≡ true → line_text k ≡ line_text l → k ≡ l
unfolding fits_line
line_injective k l p q same =
    let a = and_parts (list_all fits_field k.fields) _ p in
    let b = and_parts (list_all fits_field l.fields) _ q in
    let texts = sym (line-items k) ∙ same ∙ line-items l in
    let letters : k.letter ≡ l.letter = sym (letter_at_lem k.letter) ∙ ap (λ t. letter_at (get_or t 0 0)) texts ∙ letter_at_lem l.letter in
    let items = items_injective (items_of k.fields k.changes) (items_of l.fields l.changes)
    (items_fit k.fields k.changes a.0 a.1) (items_fit l.fields l.changes b.0 b.1) (ap tail texts) in
    let fields : k.fields ≡ l.fields = sym (fields_in_lem k.fields k.changes) ∙ ap fields_in items ∙ fields_in_lem l.fields l.changes in
    let changes : k.changes ≡ l.changes = sym (changes_in_lem k.fields k.changes) ∙ ap changes_in items ∙ changes_in_lem l.fields l.changes in
    λ i. record { letter = letters i; fields = fields i; changes = changes i }
