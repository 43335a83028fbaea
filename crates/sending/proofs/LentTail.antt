-- Bytes at the front of a buffer, and its tail, which was lent and came back. Assumes nothing.
use mathlib.Core.Path.{◌≡◌, ◌∙◌}
use mathlib.Core.List.{List, ◌++◌, append_assoc, append-nil}
use Prim.Native.Nat.{ℕ, ◌+◌, ◌-◌, ◌≤◌}
use native.Mathlib.Omega.{arith}
use lib.ListN.{length, take, drop, replicate, length-append, drop_of_length-le}
use lib.Seq.{sets, sets-eq, take_at, drop_at, take_all, drop-drop}
use borrow.Rule.Slice.PartMut.{put_mid}

-- Bytes that are written at the front.
pub set_front : (l out : List ℕ) (n : ℕ) → length l ≡ n → n ≤ length out → sets out 0 l ≡ l ++ drop n out
set_front l out n e h = let place : 0 + length l ≡ n = omega arith in sets-eq l out 0 (omega arith) ∙ rw place

-- The tail of front ++ drop n d was lent, and came back as p and then what was behind it.
pub tail_back : (front d p : List ℕ) (n m : ℕ) → length front ≡ n → n ≤ length d
    → (let xs = front ++ drop n d in let k = length xs - n in
    let tl = take k (drop n xs) in
    take n xs ++ ((p ++ drop m tl) ++ drop k (drop n xs))) ≡ front ++ p ++ drop (n + m) d
tail_back front d p n m e l =
    let len : length (drop n d) ≤ length (front ++ drop n d) - n = rw length-append (omega arith) in
    let len' : length (drop n d) ≤ length (front ++ drop n d) - n = len in
    rw (take_at front (drop n d) n e, drop_at front (drop n d) n e, take_all _ _ len, drop_of_length-le _ len, drop-drop m n d, append-nil, append_assoc)

-- What the buffer holds after n bytes were written and the pads after them: xs is the buffer with the bytes, and ys the lent tail with the
-- pads.
pub after-pads : (l out xs ys : List ℕ) (n pads pad : ℕ) → length l ≡ n → n ≤ length out → xs ≡ l ++ drop n out
    → ys ≡ replicate pads pad ++ drop pads (take (length xs - n) (drop n xs)) → put_mid n (length xs - n) xs ys ≡ l ++ replicate pads pad ++ drop (n + pads)
    out
after-pads l out xs ys n pads pad e h ex ey = rw (ey, ex) (tail_back l out (replicate pads pad) n pads e h)
