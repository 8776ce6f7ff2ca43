-- An engine, the contract of its calls, and the histories of calls on one memory and one table. The demands are stated over these.
use Rattle.std.specs.Prelude.{◌≡◌, ℕ, ◌^◌, List, [], ◌∷◌}
use Rattle.calls.specs.Call.{Call, Left, Below, Typed, called}

-- An engine is a relation: what a call may leave, made on a memory and a table.
abbrev pub Engine : Type 1
Engine = List ℕ → List ℕ → Call → Left → Type 0

-- the lent parts are of their types; otherwise they hold anything
pub record Lent (memory table : List ℕ) (c : Call) : Type 0 where
  pub memory_words : Below (2 ^ 64) memory
  pub table_words : Below (2 ^ 64) table
  pub typed : Typed c

-- the contract of a call: it leaves what document 01 says
abbrev pub Leaves : Engine
Leaves memory table c l = l ≡ called memory table c

-- an engine meets the contract
abbrev pub Meets : Engine → Type 0
Meets E = (memory table : List ℕ) (c : Call) (l : Left) → Lent memory table c → E memory table c l → Leaves memory table c l

-- and answers every call: one that never answers would meet the contract too
abbrev pub Answers : Engine → Type 0
Answers E = (memory table : List ℕ) (c : Call) → Lent memory table c → (l : Left) × E memory table c l

-- a call and what it left
pub record Exchange : Type 0 where
  pub call : Call
  pub left : Left

-- The first call gets a memory and a table; each later one gets them as the last left them.
pub data History (E : Engine) : List ℕ → List ℕ → List Exchange → Type 0 where
  over : {memory table : List ℕ} → History E memory table []
  made : {memory table : List ℕ} {x : Exchange} {xs : List Exchange} → E memory table x.call x.left
      → History E x.left.memory x.left.table xs → History E memory table (x ∷ xs)
