-- How a flat list of values and a list of control entries stand for a position.
use Rattle.std.specs.Prelude.{ℕ, ◌+◌, ◌-◌, ◌≡◌, ◌≤◌, List, [], ◌∷◌, length, take, drop, reverse}
use Rattle.vr_wasm_ast.specs.declared.instr.Instr.{Instr}
use Rattle.vr_wasm_steps.specs.declared.limits.TheConstants.{MAX_FRAMES, MAX_SLOTS, MAX_LABELS}
use Rattle.vr_wasm_stacks.specs.declared.control.Control.{Control}
use Rattle.vr_wasm_stacks.specs.declared.control.Control.TheVariants.{Block, Call}
use Rattle.vr_wasm_stacks.specs.Positions.{Layer, in_label, in_frame, Position}

-- The control entries come with the innermost first.

-- where the operands of the innermost sequence begin
abbrev pub height : List Control → ℕ
height [] = 0
height (Block results target rest h ∷ es) = h
height (Call results rest base h frame locals ∷ es) = h

-- the operands of the innermost sequence, the last one first
abbrev pub operands : List Control → List ℕ → List ℕ
operands es values = reverse (drop (height es) values)

-- of the innermost frame
abbrev pub locals : List Control → List ℕ → List ℕ
locals [] values = []
locals (Block results target rest h ∷ es) values = locals es (take h values)
locals (Call results rest base h frame outer ∷ es) values = drop base (take h values)

-- the instructions of the target before the rest
abbrev pub continuation : List Instr → List Instr → List Instr
continuation target rest = take (length target - length rest) target

-- what stands round the innermost sequence
abbrev pub layers : List Control → List ℕ → List Layer
layers [] values = []
layers (Block results target rest h ∷ es) values =
    in_label results (continuation target.now rest.now) (operands es (take h values)) rest.now
    ∷ layers es (take h values)
layers (Call results rest base h frame outer ∷ es) values =
    in_frame results (operands es (take base values)) rest.now (locals es (take base values))
    ∷ layers es (take base values)

-- the position that entries, values and the instructions that are left stand for
abbrev pub position : List Control → List ℕ → List Instr → Position
position es values code = record {
  layers = layers es values;
  locals = locals es values;
  operands = operands es values;
  code = code;
}

-- how many functions have been called and not left
abbrev pub calls : List Control → ℕ
calls [] = 0
calls (Block results target rest h ∷ es) = calls es
calls (Call results rest base h frame outer ∷ es) = 1 + calls es

-- the heights rise
abbrev pub Rises : List Control → List ℕ → Type 0
Rises [] values = Unit {0}
Rises (Block results target rest h ∷ es) values =
    (h ≤ length values) × (height es ≤ h) × Rises es (take h values)
Rises (Call results rest base h frame outer ∷ es) values =
    (h ≤ length values) × (base ≤ h) × (height es ≤ base) × Rises es (take base values)

-- a block's target ends with its rest, and the place and the locals of the innermost call are kept,
-- here and where it was called
abbrev pub Keeps : List Control → ℕ → ℕ → Type 0
Keeps [] frame base = (frame ≡ 0) × (base ≡ 0)
Keeps (Block results target rest h ∷ es) frame base =
    (drop (length target.now - length rest.now) target.now ≡ rest.now) × Keeps es frame base
Keeps (Call results rest start h frame' base' ∷ es) frame base =
    (frame ≡ length es) × (base ≡ start) × Keeps es frame' base'

-- what is true of the two stacks, the number of frames, the place of the innermost call, where
-- its locals begin, and the rooms
pub record IsSound (es : List Control) (values : List ℕ) (frames frame base : ℕ)
    (slots_room labels_room : ℕ) : Type 0 where
  pub rises : Rises es values
  pub keeps : Keeps es frame base
  pub counted : frames ≡ calls es
  pub few_frames : frames ≤ MAX_FRAMES
  pub few_slots : length values ≤ MAX_SLOTS
  pub few_labels : length es ≤ MAX_LABELS
  pub slots : MAX_SLOTS ≤ slots_room
  pub labels : MAX_LABELS ≤ labels_room
