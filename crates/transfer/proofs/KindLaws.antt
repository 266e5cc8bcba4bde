-- The kinds of errors stand for Linux's numbers: what is done by the kind that std gives a number is what is done by the number.
use Rattle.std.proofs.Common.{◌≡◌, ℕ, inl, inr, Bool, true, false, cond, not, ◌||◌, eqb, ℤ, pos, negsuc, List, [], ◌∷◌, Option, None, Some, Ok, Err, refl, sym, subst, ◌∙◌, arith, suc}
use Rattle.std.proofs.lemmas.Bool.{eqb-true, and_parts, or_cases, or_from, not-true, both_ways, cases_Bool, cond-false, lt-leb}
use Rattle.std.specs.List.{list_all}
use Rattle.std.specs.IoError.{os_error_kind, os_error_kinds, kind_in}
use Rattle.std.specs.declared.io.Error.{Error}
use Rattle.std.specs.declared.io.ErrorKind.{ErrorKind}
use Rattle.std.specs.declared.io.ErrorKind.TheVariants as kind
use Rattle.transfer.specs.declared.outcome.Retry.{Retry}
use Rattle.transfer.specs.declared.outcome.Retry.TheVariants.{AtOnce, AfterPause}
use Rattle.transfer.specs.Outcome.{again_at, again_after, interrupted, would_block}
use Rattle.transfer.specs.Opened.{not_opened_at, not_opened, no_such_file}

-- ---- A number whose kind passes no test

module _ (test : ErrorKind → Bool) (listed : ℕ → Bool) where
  -- a row of std's table: its kind passes the test only where its number is listed
  abbrev sound : ℕ × ErrorKind → Bool
  sound row = listed row.0 || not (test row.1)

  row_fails : (row : ℕ × ErrorKind) (n : ℕ) → n ≡ row.0 → sound row ≡ true → listed n ≡ false → test row.1 ≡ false
  row_fails row n e s h = elim (or_cases (listed row.0) (not (test row.1)) s) [
    | inl p ↦ absurd (both_ways (listed n) h (let P : ℕ → Type 0 = λ m. listed m ≡ true in subst P (sym e) p))
    | inr q ↦ not-true (test row.1) q
  ]

  either : (b : Bool) (x y : ErrorKind) → (b ≡ true → test x ≡ false) → test y ≡ false → test (cond b x y) ≡ false
  either true x y p q = p refl
  either false x y p q = q

  fails : (rows : List (ℕ × ErrorKind)) (n : ℕ) → test kind.Uncategorized ≡ false → list_all sound rows ≡ true → listed n ≡ false
      → test (kind_in rows n) ≡ false
  fails [] n none all h = none
  fails (row ∷ rows) n none all h =
      let parts = and_parts (sound row) (list_all sound rows) all in
      either (eqb n row.0) row.1 (kind_in rows n) (λ e. row_fails row n (eqb-true n row.0 e) parts.0 h) (fails rows n none parts.1 h)

-- ---- Whether a call is made again

abbrev is_again : Option Retry → Bool
is_again None = false
is_again (Some retry) = true

none_again : (o : Option Retry) → is_again o ≡ false → o ≡ None
none_again None h = refl
none_again (Some retry) h = absurd (both_ways true h refl)

abbrev SameRetry : ℕ → Type 0
SameRetry n = again_at (kind_in os_error_kinds n) ≡ cond (eqb n interrupted) (Some AtOnce) (cond (eqb n would_block) (Some AfterPause) None)

neither : (a b : Bool) → a ≡ false → b ≡ false → cond a (Some AtOnce) (cond b (Some AfterPause) None) ≡ None
neither a b p q = rw (p, q) refl

same_retry : (n : ℕ) → SameRetry n
same_retry n = elim (cases_Bool (eqb n interrupted)) [
  | inl e ↦ subst SameRetry (sym (eqb-true n interrupted e)) refl
  | inr a ↦ elim (cases_Bool (eqb n would_block)) [
    | inl e ↦ subst SameRetry (sym (eqb-true n would_block e)) refl
    | inr b ↦ none_again _ (fails (λ k. is_again (again_at k)) (λ m. eqb m interrupted || eqb m would_block) os_error_kinds n refl refl
        (or_from (eqb n interrupted) (eqb n would_block) a b)) ∙ sym (neither (eqb n interrupted) (eqb n would_block) a b)
  ]
]

pub again_at_number : (error : ℤ) → again_at (os_error_kind error) ≡ again_after error
unfolding os_error_kind again_after
again_at_number (pos n) = rw (lt-leb (suc n) 0 (omega arith)) (same_retry n)
again_at_number (negsuc n) = refl

-- ---- Whether a file is missing

abbrev is_missing : ErrorKind → Bool
is_missing kind.NotFound = true
is_missing _ = false

module _ (F : Type 0) (error : Error) where
  there : (k : ErrorKind) → is_missing k ≡ false → not_opened_at {F = F} k error ≡ Err error
  there kind.NotFound h = absurd (both_ways true h refl)
  there _ h = refl

  abbrev SameOpened : ℕ → Type 0
  SameOpened n = not_opened_at {F = F} (kind_in os_error_kinds n) error ≡ cond (eqb n no_such_file) (Ok None) (Err error)

  same_opened : (n : ℕ) → SameOpened n
  same_opened n = elim (cases_Bool (eqb n no_such_file)) [
    | inl e ↦ subst SameOpened (sym (eqb-true n no_such_file e)) refl
    | inr a ↦ there (kind_in os_error_kinds n) (fails is_missing (λ m. eqb m no_such_file) os_error_kinds n refl refl a)
        ∙ sym (cond-false (eqb n no_such_file) (Ok None) (Err error) a)
  ]

  pub not_opened_at_number : (number : ℤ) → not_opened_at {F = F} (os_error_kind number) error ≡ not_opened number error
  unfolding os_error_kind not_opened
  not_opened_at_number (pos n) = rw (lt-leb (suc n) 0 (omega arith)) (same_opened n)
  not_opened_at_number (negsuc n) = refl
