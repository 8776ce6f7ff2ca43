-- Elements written into a list from a place on.
-- Assumes nothing.
use Rattle.std.proofs.Common.{◌≡◌, ℕ, ◌+◌, ◌≤◌, List, [], ◌++◌, length, take, drop, append_assoc, append-nil, add-zero, add_assoc, arith, length-append, take-append-drop, length-take-le, drop-drop, take_at, drop_at}
use borrow.Rule.Slice.PartMut.{put_mid}
use Rattle.blocks.specs.Working.Writing.{put}

-- what a write to a part of a list leaves
pub put_part : (l : List ℕ) (at k : ℕ) {ys xs : List ℕ} → ys ≡ xs → k ≡ length xs → put_mid at k l ys ≡ put l at xs
unfolding put
put_part l at k e n = rw (e, n, append_assoc, drop-drop)

pub put_none : (l : List ℕ) (at : ℕ) → put l at [] ≡ l
unfolding put
put_none l at = rw (add-zero, append-nil) (take-append-drop at l)

module _ (l : List ℕ) (at : ℕ) (xs : List ℕ) (fits : at + length xs ≤ length l) where
  length_head : length (take at l ++ xs) ≡ at + length xs
  length_head = rw (length-append, length-take-le at l (omega arith))

  -- what is put right behind joins
  pub put_put : (ys : List ℕ) → put (put l at xs) (at + length xs) ys ≡ put l at (xs ++ ys)
  unfolding put
  put_put ys =
      rw (
        take_at (take at l ++ xs) (drop (at + length xs) l) (at + length xs) length_head,
        ← drop-drop (length ys) (at + length xs) (take at l ++ xs ++ drop (at + length xs) l),
        drop_at (take at l ++ xs) (drop (at + length xs) l) (at + length xs) length_head,
        drop-drop,
        length-append,
        add_assoc,
        append_assoc (take at l) xs ys,
      )
