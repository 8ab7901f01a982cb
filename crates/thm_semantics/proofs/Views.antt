-- A jump by number, told by how many of the enclosing scopes it leaves before its target.
use Rattle.std.proofs.Common.{◌≡◌, Bool, true, false, nat_eq, if◌then◌else◌, List, [], ◌∷◌, Option, Some, None, refl, sym, ap, ◌∙◌}
use Rattle.hir_store.specs.declared.ids.LabelId.{LabelId}
use Rattle.hir_store.specs.declared.ids.MacroDefId.{MacroDefId}
use Rattle.hir_env.specs.ResolvedTree.{Label}
use Rattle.hir_lower_scope.specs.Scopes.{Count, count_further, scope_out, continue_past_block}
use Rattle.thm_logic.proofs.Frames.{Frame, plain_loop, loop_at, block_at, try_at, macro_at, barrier_at}
use Rattle.spec_semantics.specs.Run.{Value, Outcome, value, break, continue, leave}
use Rattle.spec_semantics.specs.Catching.{Step, again, done, iteration_end, block_end, catch_break, catch_continue}
use Rattle.spec_semantics.specs.Store.{JumpLabel, past_loop, past_block}
use Rattle.spec_semantics.specs.Jumps.{and_label}

-- how many scopes a jump by number leaves

abbrev pub count_break : List Frame → JumpLabel → Count
count_break [] j = None
count_break (plain_loop ∷ ps) None = Some 0
count_break (plain_loop ∷ ps) (Some k) = count_further (count_break ps (Some k))
count_break (loop_at l n ∷ ps) None = Some 0
count_break (loop_at l n ∷ ps) (Some k) = if nat_eq n.0 k.0 then Some 0 else count_further (count_break ps (Some k))
count_break (block_at l n ∷ ps) None = count_further (count_break ps None)
count_break (block_at l n ∷ ps) (Some k) = if nat_eq n.0 k.0 then Some 0 else count_further (count_break ps (Some k))
count_break (try_at n typed ∷ ps) None = count_further (count_break ps None)
count_break (try_at n typed ∷ ps) (Some k) = if nat_eq n.0 k.0 then Some 0 else count_further (count_break ps (Some k))
count_break (macro_at d ∷ ps) j = count_break ps j
count_break (barrier_at ∷ ps) j = None

abbrev pub count_continue : List Frame → JumpLabel → Count
count_continue [] j = None
count_continue (plain_loop ∷ ps) None = Some 0
count_continue (plain_loop ∷ ps) (Some k) = count_further (count_continue ps (Some k))
count_continue (loop_at l n ∷ ps) None = Some 0
count_continue (loop_at l n ∷ ps) (Some k) = if nat_eq n.0 k.0 then Some 0 else count_further (count_continue ps (Some k))
count_continue (block_at l n ∷ ps) j = count_further (count_continue ps j)
count_continue (try_at n typed ∷ ps) j = count_further (count_continue ps j)
count_continue (macro_at d ∷ ps) j = count_continue ps j
count_continue (barrier_at ∷ ps) j = None

abbrev pub view : {A : Type 0} → List Frame → Outcome JumpLabel A → Outcome Count A
view ps (value a) = value a
view ps (break j v) = break (count_break ps j) v
view ps (continue j) = continue (count_continue ps j)
view ps (leave x) = leave x

abbrev pub view_step : List Frame → Step JumpLabel → Step Count
view_step ps again = again
view_step ps (done o) = done (view ps o)

-- going out of a loop

-- a label that is stored, with its number
pub record Numbered : Type 0 where
  pub label : Label
  pub number : LabelId

abbrev pub number : Option Numbered → Option LabelId
number None = None
number (Some n) = Some n.number

abbrev pub loop_frame : Option Numbered → Frame
loop_frame None = plain_loop
loop_frame (Some n) = loop_at n.label n.number

abbrev pub map_jump : (JumpLabel → Count) → Option JumpLabel → Option Count
map_jump f None = None
map_jump f (Some j) = Some (f j)

out_further : (j : Count) → scope_out (count_further j) ≡ Some j
out_further None = refl
out_further (Some k) = refl

loop_break : (x : Option Numbered) (ps : List Frame) (j : JumpLabel)
    → scope_out (count_break (loop_frame x ∷ ps) j) ≡ map_jump (count_break ps) (past_loop (number x) j)
loop_break None ps None = refl
loop_break None ps (Some k) = out_further (count_break ps (Some k))
loop_break (Some n) ps None = refl
loop_break (Some n) ps (Some k) = split (nat_eq n.number.0 k.0)
  where
    split : (b : Bool)
        → scope_out (if b then Some 0 else count_further (count_break ps (Some k)))
        ≡ map_jump (count_break ps) (if b then None else Some (Some k))
    split true = refl
    split false = out_further (count_break ps (Some k))

loop_continue : (x : Option Numbered) (ps : List Frame) (j : JumpLabel)
    → scope_out (count_continue (loop_frame x ∷ ps) j) ≡ map_jump (count_continue ps) (past_loop (number x) j)
loop_continue None ps None = refl
loop_continue None ps (Some k) = out_further (count_continue ps (Some k))
loop_continue (Some n) ps None = refl
loop_continue (Some n) ps (Some k) = split (nat_eq n.number.0 k.0)
  where
    split : (b : Bool)
        → scope_out (if b then Some 0 else count_further (count_continue ps (Some k)))
        ≡ map_jump (count_continue ps) (if b then None else Some (Some k))
    split true = refl
    split false = out_further (count_continue ps (Some k))

view_broken : (ps : List Frame) (v : Value) (j : Option JumpLabel)
    → view_step ps (catch_break v j (λ v'. done (value v')) done) ≡ catch_break v (map_jump (count_break ps) j) (λ v'. done (value v')) done
view_broken ps v None = refl
view_broken ps v (Some j) = refl

view_continued : (ps : List Frame) (j : Option JumpLabel)
    → view_step ps (catch_continue j again done) ≡ catch_continue (map_jump (count_continue ps) j) again done
view_continued ps None = refl
view_continued ps (Some j) = refl

pub iteration_ends : (x : Option Numbered) (ps : List Frame) (o : Outcome JumpLabel (Option Value))
    → view_step ps (iteration_end (past_loop (number x)) o) ≡ iteration_end scope_out (view (loop_frame x ∷ ps) o)
iteration_ends x ps (value None) = refl
iteration_ends x ps (value (Some v)) = refl
iteration_ends x ps (break j v) =
    view_broken ps v (past_loop (number x) j)
    ∙ ap (λ i. catch_break v i (λ v'. done (value v')) done) (sym (loop_break x ps j))
iteration_ends x ps (continue j) =
    view_continued ps (past_loop (number x) j) ∙ ap (λ i. catch_continue i again done) (sym (loop_continue x ps j))
iteration_ends x ps (leave y) = refl

-- going out of a block

abbrev pub frames_in_block : Option Numbered → List Frame → List Frame
frames_in_block None ps = ps
frames_in_block (Some n) ps = block_at n.label n.number ∷ ps

block_break : (n : Numbered) (ps : List Frame) (j : JumpLabel)
    → scope_out (count_break (block_at n.label n.number ∷ ps) j) ≡ map_jump (count_break ps) (past_block (Some n.number) j)
block_break n ps None = out_further (count_break ps None)
block_break n ps (Some k) = split (nat_eq n.number.0 k.0)
  where
    split : (b : Bool)
        → scope_out (if b then Some 0 else count_further (count_break ps (Some k)))
        ≡ map_jump (count_break ps) (if b then None else Some (Some k))
    split true = refl
    split false = out_further (count_break ps (Some k))

past_further : (j : Count) → continue_past_block (count_further j) ≡ j
past_further None = refl
past_further (Some k) = refl

view_block_broken : (ps : List Frame) (v : Value) (j : Option JumpLabel)
    → view ps (catch_break v j value (λ o. o)) ≡ catch_break v (map_jump (count_break ps) j) value (λ o. o)
view_block_broken ps v None = refl
view_block_broken ps v (Some j) = refl

pub block_ends : (n : Numbered) (ps : List Frame) (o : Outcome JumpLabel Value)
    → view ps (block_end (past_block (Some n.number)) (λ j. j) o)
    ≡ block_end scope_out continue_past_block (view (block_at n.label n.number ∷ ps) o)
block_ends n ps (value v) = refl
block_ends n ps (break j v) =
    view_block_broken ps v (past_block (Some n.number) j)
    ∙ ap (λ i. catch_break v i value (λ o. o)) (sym (block_break n ps j))
block_ends n ps (continue j) = ap continue (sym (past_further (count_continue ps j)))
block_ends n ps (leave x) = refl

-- a `try` is a block, whatever it is called
try_break : (n : LabelId) (typed : Bool) (ps : List Frame) (j : JumpLabel)
    → scope_out (count_break (try_at n typed ∷ ps) j) ≡ map_jump (count_break ps) (past_block (Some n) j)
try_break n typed ps None = out_further (count_break ps None)
try_break n typed ps (Some k) = split (nat_eq n.0 k.0)
  where
    split : (b : Bool)
        → scope_out (if b then Some 0 else count_further (count_break ps (Some k)))
        ≡ map_jump (count_break ps) (if b then None else Some (Some k))
    split true = refl
    split false = out_further (count_break ps (Some k))

pub try_ends : (n : LabelId) (typed : Bool) (ps : List Frame) (o : Outcome JumpLabel Value)
    → view ps (block_end (past_block (Some n)) (λ j. j) o) ≡ block_end scope_out continue_past_block (view (try_at n typed ∷ ps) o)
try_ends n typed ps (value v) = refl
try_ends n typed ps (break j v) =
    view_block_broken ps v (past_block (Some n) j) ∙ ap (λ i. catch_break v i value (λ o. o)) (sym (try_break n typed ps j))
try_ends n typed ps (continue j) = ap continue (sym (past_further (count_continue ps j)))
try_ends n typed ps (leave x) = refl

-- A block without a label catches nothing.
pub plain_block_ends : (o : Outcome JumpLabel Value) → block_end (past_block None) (λ j. j) o ≡ o
plain_block_ends (value v) = refl
plain_block_ends (break None v) = refl
plain_block_ends (break (Some k) v) = refl
plain_block_ends (continue j) = refl
plain_block_ends (leave x) = refl

-- going behind the definition of a macro

abbrev pub frames_behind : Option MacroDefId → List Frame → List Frame
frames_behind None ps = ps
frames_behind (Some def) ps = macro_at def ∷ ps

-- It catches nothing.
pub view_behind : {A : Type 0} (def : Option MacroDefId) (ps : List Frame) (o : Outcome JumpLabel A)
    → view (frames_behind def ps) o ≡ view ps o
view_behind None ps o = refl
view_behind (Some def) ps (value a) = refl
view_behind (Some def) ps (break j v) = refl
view_behind (Some def) ps (continue j) = refl
view_behind (Some def) ps (leave x) = refl

-- labels around

-- Behind a barrier they are not those of the body inside.
abbrev pub numbers : List Frame → List LabelId
numbers [] = []
numbers (plain_loop ∷ ps) = numbers ps
numbers (loop_at l n ∷ ps) = n ∷ numbers ps
numbers (block_at l n ∷ ps) = n ∷ numbers ps
numbers (try_at n typed ∷ ps) = n ∷ numbers ps
numbers (macro_at d ∷ ps) = numbers ps
numbers (barrier_at ∷ ps) = []

pub loop_numbers : (x : Option Numbered) (ps : List Frame) → numbers (loop_frame x ∷ ps) ≡ and_label (number x) (numbers ps)
loop_numbers None ps = refl
loop_numbers (Some n) ps = refl
