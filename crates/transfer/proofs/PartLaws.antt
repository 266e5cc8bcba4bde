-- Bytes that are moved in parts, one behind the other.
use Rattle.std.proofs.Common.{◌≡◌, ℕ, ◌+◌, ◌-◌, ◌≤◌, List, [], ◌++◌, length, take, drop, Option, None, Some, Result, Ok, Err, ap, sym, subst, ◌∙◌, length-take-le, append-nil}
use Rattle.std.proofs.KnownBytes.{Appends-trans, Consumes-trans}
use Rattle.std.proofs.Math.Seq.{take-append-add}
use Rattle.std.proofs.lemmas.List.{take_rest, take-append-le}
use Rattle.std.specs.Io.KnownBytes.{Keeps, Appends, Consumes, WriteAppends}
use Rattle.std.specs.declared.io.Error.{Error}
use Rattle.transfer.specs.Outcome.{OrWouldBlock}
use borrow.Rule.Slice.PartMut.{put_mid, post_of}
use lib.Seq.{take-add}

-- the first n bytes behind `done` of them
written_more : (done n : ℕ) (xs : List ℕ) → take (done + n) xs ≡ take done xs ++ take n (take (length xs - done) (drop done xs))
written_more done n xs = take-add done n xs ∙ ap (λ l. take done xs ++ take n l) (sym (take_rest xs done))

pub appends_next : (old mid new : Option (List ℕ)) (done n : ℕ) (xs : List ℕ) → Appends old mid (take done xs)
    → Appends mid new (take n (take (length xs - done) (drop done xs))) → Appends old new (take (done + n) xs)
appends_next old mid new done n xs h r = subst (Appends old new) (sym (written_more done n xs)) (Appends-trans old mid new _ _ h r)

-- the bytes so far, and the first of those that were then read behind them
take_past : (done room n : ℕ) (xs ys : List ℕ) → done ≤ length xs → n ≤ length ys
    → take (done + n) (put_mid done room xs ys) ≡ take done xs ++ take n ys
take_past done room n xs ys within fits =
    let after = post_of done room xs in
    ap (λ m. take (m + n) (take done xs ++ (ys ++ after))) (sym (length-take-le done xs within))
    ∙ take-append-add (take done xs) (ys ++ after) n
    ∙ ap (λ l. take done xs ++ l) (take-append-le n ys after fits)

pub consumes_next : (old mid new : Option (List ℕ)) (done room n : ℕ) (xs ys : List ℕ) → done ≤ length xs → n ≤ length ys
    → Consumes old mid (take done xs) → Consumes mid new (take n ys) → Consumes old new (take (done + n) (put_mid done room xs ys))
consumes_next old mid new done room n xs ys within fits h r =
    subst (Consumes old new) (sym (take_past done room n xs ys within fits)) (Consumes-trans old mid new _ _ h r)

-- ---- A write that takes nothing

appends_none : (old new : Option (List ℕ)) → Appends old new [] → Keeps old new
appends_none None new h = tt
appends_none (Some xs) None h = h
appends_none (Some xs) (Some ys) h = h ∙ append-nil xs

-- what it counts as appends the same
pub write_counts : (old new : Option (List ℕ)) (put answer : Result ℕ Error) (bytes : List ℕ) → OrWouldBlock put answer
    → WriteAppends old new put bytes → WriteAppends old new answer bytes
write_counts old new (Ok n) (Ok m) bytes o w = rw o.0 w
write_counts old new (Ok n) (Err e) bytes o w =
    appends_none old new (let P : ℕ → Type 0 = λ k. Appends old new (take k bytes) in subst P o.0 w)
write_counts old new (Err e) (Ok m) bytes o w = absurd o
write_counts old new (Err e) (Err f) bytes o w = w
