-- Demand 3: one claim about a list of explorations, refused ones included, on one memory and one table.
use Rattle.std.specs.Prelude.{◌≡◌, ℕ, ◌+◌, ◌*◌, Bool, false, cond, ◌||◌, length, take, replicate}
use mathlib.Core.List.{List, [], ◌∷◌, map, flat_map}
use Rattle.boxes.specs.Boxes.{keep}
use Rattle.listing.specs.Group.{Job}
use Rattle.listing.specs.Listing.{listing}
use Rattle.blocks.specs.Record.{record_bytes, records}
use Rattle.calls.specs.Call.{Call, inputs_of, written, more, is_page, job_of, page, reply_to}
use Rattle.calls.specs.Engine.{Exchange}
use Rattle.calls.specs.Complete.{Complete}

-- memory and the table after the list
unfoldable pub memory_after : List ℕ → List Exchange → List ℕ
memory_after memory [] = memory
memory_after memory (x ∷ xs) = memory_after x.left.memory xs

unfoldable pub table_after : List ℕ → List Exchange → List ℕ
table_after table [] = table
table_after table (x ∷ xs) = table_after x.left.table xs

abbrev pub is_accepted : Exchange → Bool
is_accepted x = is_page x.left.reply.answer

unfoldable pub any_accepted : List Exchange → Bool
any_accepted [] = false
any_accepted (x ∷ xs) = is_accepted x || any_accepted xs

-- Calls bring one job if they differ at most in first path and report.
pub record SameJob (c d : Call) : Type 0 where
  pub code : c.code ≡ d.code
  pub intervals : c.intervals ≡ d.intervals
  pub limit : c.limit ≡ d.limit

-- The calls bring the job of c, ask first for path n and then each time for the path after the last one written, with pages of any
-- sizes, until an answer says that none remains.
pub data Pages (c : Call) : ℕ → List Exchange → Type 0 where
  last : {n : ℕ} {x : Exchange} → SameJob x.call c → x.call.first ≡ n → more x.left.reply.answer ≡ false
      → Pages c n (x ∷ [])
  next : {n : ℕ} {x : Exchange} {xs : List Exchange} → SameJob x.call c → x.call.first ≡ n
      → Pages c (n + written x.left.reply.answer) xs → Pages c n (x ∷ xs)

-- the bytes that a call wrote
abbrev pub bytes_written : Exchange → List ℕ
bytes_written x = take (record_bytes (inputs_of x.call) * written x.left.reply.answer) x.left.reply.report

-- The joined pages are the whole listing, path by path and byte by byte.
pub record Joined (j : Job) (xs : List Exchange) : Type 0 where
  pub paths : flat_map (λ (x : Exchange). page j x.call) xs ≡ listing j
  pub bytes : flat_map bytes_written xs ≡ records 0 (listing j)
  pub complete : Complete j

pub record Together (memory table : List ℕ) (xs : List Exchange) : Type 0 where
  -- after the list memory is as it came
  pub memory_after_is : memory_after memory xs ≡ memory
  -- and the table zero if any call was accepted, otherwise as it came
  pub table_after_is : table_after table xs ≡ cond (any_accepted xs) (replicate (length table) 0) table
  -- every call's answer and every byte of its report are what the plain listing gives for that call, on the memory of the first
  pub replies : map (λ (x : Exchange). x.left.reply) xs ≡ map (λ (x : Exchange). reply_to memory (length table) x.call) xs
  -- if the accepted calls ask so for one job, the joined pages are its whole listing
  pub pages : (c : Call) → Pages c 0 (keep is_accepted xs) → Joined (job_of memory (length table) c) (keep is_accepted xs)
