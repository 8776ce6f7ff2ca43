-- The page with one more path: its registers, the length of its record, the bytes before its place and those after it.
-- Assumes nothing.
use mathlib.Core.Path.{◌≡◌, refl, sym, ap, ◌∙◌}
use mathlib.Core.List.{List, [], ◌∷◌, ◌++◌, map}
use Prim.Native.Nat.{ℕ, ◌+◌, ◌-◌, ◌≤◌, ◌<◌, min, max}
use native.Mathlib.Omega.{arith}
use native.Mathlib.Decide.{dec_lt}
use lib.ListN.{length, get_or, take, drop, length-append, length-take, length-drop, length-map}
use lib.Seq.{take_at, drop_at, drop-drop}
use borrow.Author.Tests.{lt-ltb, le-ltb}
use Rattle.boxes.specs.Boxes.{Interval, ◌⋯◌, from}
use Rattle.boxes.specs.Working.Cuts.{box_in}
use Rattle.boxes.proofs.Lists.{length_from}
use Rattle.boxes.proofs.TwoLists.{length_in}
use Rattle.riscu.specs.declared.At.{At}
use Rattle.listing.specs.Listing.{Path}
use Rattle.listing.specs.declared.End.{End}
use Rattle.blocks.specs.Record.{most_inputs, record_bytes, record_of}
use Rattle.blocks.proofs.Reading.{record_length}
use Rattle.pages.specs.Working.Page.{leasts, greatests, ended_path, page_with, filled}
use Rattle.pages.specs.declared.Window.{Window}

-- two lists made of the same numbers, as a box
box_map : (f g : ℕ → ℕ) (l : List ℕ) → box_in (map f l) (map g l) ≡ map (λ n. f n ⋯ g n) l
unfolding box_in
box_map f g [] = refl
box_map f g (x ∷ l) = ap (λ (r : List Interval). f x ⋯ g x ∷ r) (box_map f g l)

-- the registers of a path, each from its values at the two corners
pub registers_in : (l h : List ℕ)
    → box_in (leasts l h) (greatests l h) ≡ map (λ r. min (get_or l r 0) (get_or h r 0) ⋯ max (get_or l r 0) (get_or h r 0)) (from 0 32)
registers_in l h = box_map (λ r. min (get_or l r 0) (get_or h r 0)) (λ r. max (get_or l r 0) (get_or h r 0)) (from 0 32)

-- the record of a path that ends here has its size
pub ended_length : (k : ℕ) (ls hs l h : List ℕ) (a : At) (n : ℕ) (e : End) → length ls ≤ most_inputs → length ls ≡ length hs
    → length (record_of k (ended_path ls hs l h a n e)) ≡ record_bytes (length ls)
ended_length k ls hs l h a n e few paired =
    record_length k (ended_path ls hs l h a n e) (omega (arith, length_in ls hs paired))
    (length_in (leasts l h) (greatests l h) (length-map (from 0 32) _ ∙ sym (length-map (from 0 32) _)) ∙ length-map (from 0 32) _ ∙ length_from 32 0)

-- what two lists share from n on, they share from any later place on
drop_later : (n m : ℕ) (a b : List ℕ) → n ≤ m → drop n a ≡ drop n b → drop m a ≡ drop m b
drop_later n m a b l e =
    let k : m ≡ n + (m - n) = omega arith in
    rw k (sym (drop-drop (m - n) n a) ∙ ap (drop (m - n)) e ∙ drop-drop (m - n) n b)

-- what two reports share past the records of some paths, they share past those of more
pub kept_later : (n : ℕ) (w : Window) (k m : ℕ) (a b : List ℕ) → k ≤ m → drop (filled n w k) a ≡ drop (filled n w k) b
    → drop (filled n w m) a ≡ drop (filled n w m) b
kept_later n w k m a b l e = drop_later (filled n w k) (filled n w m) a b (omega arith) e

-- b bytes put into a list at n
module _ (n b : ℕ) (l v : List ℕ) (e : length v ≡ b) (h : n + b ≤ length l) where
  front : length (take n l ++ v) ≡ n + b
  front = simp (length-append, length-take) (omega arith)

  put_take : take (n + b) (take n l ++ v ++ drop (n + b) l) ≡ take n l ++ v
  put_take = take_at (take n l ++ v) (drop (n + b) l) (n + b) front

  put_drop : drop (n + b) (take n l ++ v ++ drop (n + b) l) ≡ drop (n + b) l
  put_drop = drop_at (take n l ++ v) (drop (n + b) l) (n + b) front

  put_length : length (take n l ++ v ++ drop (n + b) l) ≡ length l
  put_length = simp (length-append, length-take, length-drop) (omega arith)

-- path k of n inputs ends, and the report has a place for it
module _ (n : ℕ) (w : Window) (k : ℕ) (p : Path) (report : List ℕ) (size : length (record_of k p) ≡ record_bytes n)
    (room : filled n w k + record_bytes n ≤ length report) where
  abbrev next : List ℕ
  next = page_with w k p report

  -- before the page begins, and in it
  pub page_early : k < w.first → (next ≡ report) × (filled n w (k + 1) ≡ 0)
  page_early l = (rw (lt-ltb k w.first l), omega arith)

  page_late : w.first ≤ k
      → (next ≡ take (filled n w k) report ++ record_of k p ++ drop (filled n w k + record_bytes n) report)
      × (filled n w (k + 1) ≡ filled n w k + record_bytes n)
  page_late l = (rw (le-ltb k w.first l), omega arith)

  -- the records before it and its own
  pub page_more : w.first ≤ k → take (filled n w (k + 1)) next ≡ take (filled n w k) report ++ record_of k p
  page_more l = let (a, b) = page_late l in rw (a, b) (put_take (filled n w k) (record_bytes n) report (record_of k p) size room)

  -- the bytes after it
  pub page_past : drop (filled n w (k + 1)) next ≡ drop (filled n w (k + 1)) report
  page_past = elim (dec_lt k w.first) [
    | yes l ↦ ap (drop (filled n w (k + 1))) (page_early l).0
    | no l ↦ (
        let (a, b) = page_late (omega arith) in
        rw (a, b) (put_drop (filled n w k) (record_bytes n) report (record_of k p) size room))
  ]

  pub page_length : length next ≡ length report
  page_length = elim (dec_lt k w.first) [
    | yes l ↦ ap length (page_early l).0
    | no l ↦ ap length (page_late (omega arith)).0 ∙ put_length (filled n w k) (record_bytes n) report (record_of k p) size room
  ]
