-- Where a term is looked at: its innermost sequence, and what stands round it.
use Rattle.std.specs.Prelude.{ℕ, zero, suc, ◌≡◌, List, [], ◌∷◌, ◌++◌, length, take, drop, reverse, replicate, Option, None, Some, if◌then◌else◌, nat_le, ◌==◌}
use Rattle.vr_wasm_ast.specs.declared.instr.Instr.{Instr}
use Rattle.vr_wasm_ast.specs.Instructions.{instructions_of}
use Rattle.vr_wasm_steps.specs.Terms.{Term, end, label, frame, plains, unwind}

-- what stands round a sequence: a label or a frame
pub data Layer : Type 0 where
  -- how many values a branch to the label takes along and where the branch goes on; the operands
  -- before the label, the last one first, and the instructions after it
  in_label : ℕ → List Instr → List ℕ → List Instr → Layer
  -- how many results the frame has; the operands before it, the instructions after it, and the
  -- locals of the frame that it is in
  in_frame : ℕ → List ℕ → List Instr → List ℕ → Layer

-- the layers, the innermost first, the locals of the innermost frame, the operands of the innermost
-- sequence, the last one first, and the instructions that are left of it
pub record Position : Type 0 where
  pub layers : List Layer
  pub locals : List ℕ
  pub operands : List ℕ
  pub code : List Instr

-- the term whose innermost frame has these locals, and whose innermost sequence is this one
unfoldable pub close : List Layer → List ℕ → Term → Term
close [] ls s = s
close (in_label n next vs after ∷ layers) ls s =
    close layers ls
    (unwind vs (label n (instructions_of next) s (plains (instructions_of after) end)))
close (in_frame n vs after outer ∷ layers) ls s =
    close layers outer (unwind vs (frame n ls s (plains (instructions_of after) end)))

-- the term that is looked at
abbrev pub term_of : Position → Term
term_of z = close z.layers z.locals (unwind z.operands (plains (instructions_of z.code) end))

-- outside of all frames there are no locals
abbrev pub IsRooted : List Layer → List ℕ → Type 0
IsRooted [] ls = ls ≡ []
IsRooted (in_label n next vs after ∷ layers) ls = IsRooted layers ls
IsRooted (in_frame n vs after outer ∷ layers) ls = IsRooted layers outer

-- ---- the moves

-- outside of everything
abbrev pub outside : Position
outside = record { layers = []; locals = []; operands = []; code = [] }

-- the same with other operands, other locals, other instructions
abbrev pub with_operands : Position → List ℕ → Position
with_operands z vs = record z { operands = vs }

abbrev pub with_locals : Position → List ℕ → Position
with_locals z ls = record z { locals = ls }

abbrev pub with_code : Position → List Instr → Position
with_code z is = record z { code = is }

-- into a label, with these instructions after it
abbrev pub entered : Position → ℕ → List Instr → List Instr → List Instr → Position
entered z n next after body = record {
  layers = in_label n next z.operands after ∷ z.layers;
  locals = z.locals;
  operands = [];
  code = body;
}

-- these instructions follow the first one of the others
abbrev pub IsHead : List Instr → List Instr → Type 0
IsHead code rest = (i : Instr) × (code ≡ i ∷ rest)

-- into a frame, whose parameters are the last operands
abbrev pub called : Position → ℕ → ℕ → ℕ → List Instr → List Instr → Position
called z params locals results after body = record {
  layers = in_frame results (drop params z.operands) after z.locals ∷ z.layers;
  locals = reverse (take params z.operands) ++ replicate locals 0;
  operands = [];
  code = body;
}

-- out of layers with n operands, to what follows
abbrev pub taken_along : List Layer → List ℕ → ℕ → List ℕ → List ℕ → List Instr → Option Position
taken_along layers ls n operands vs after =
    if nat_le n (length operands) then
    Some record {
      layers = layers;
      locals = ls;
      operands = take n operands ++ vs;
      code = after;
    }
    else None

-- to the label of this number of the innermost frame, the frame's own label the last
abbrev pub jump_from : List Layer → List ℕ → List ℕ → ℕ → Option Position
jump_from [] ls operands l = None
jump_from (in_label n next vs after ∷ layers) ls operands zero =
    taken_along layers ls n operands vs (next ++ after)
jump_from (in_label n next vs after ∷ layers) ls operands (suc l) = jump_from layers ls operands l
jump_from (in_frame n vs after outer ∷ layers) ls operands zero =
    taken_along layers outer n operands vs after
jump_from (in_frame n vs after outer ∷ layers) ls operands (suc l) = None

-- a branch to the label of this number
abbrev pub jump : Position → ℕ → Option Position
jump z l = jump_from z.layers z.locals z.operands l

-- how many labels stand inside the innermost frame
abbrev pub depth : List Layer → ℕ
depth [] = 0
depth (in_label n next vs after ∷ layers) = suc (depth layers)
depth (in_frame n vs after outer ∷ layers) = 0

-- out of the innermost layer at its end
abbrev pub left : List Layer → List ℕ → List ℕ → Option Position
left [] ls operands = None
left (in_label n next vs after ∷ layers) ls operands =
    Some record { layers = layers; locals = ls; operands = operands ++ vs; code = after }
left (in_frame n vs after outer ∷ layers) ls operands =
    if length operands == n
    then Some record { layers = layers; locals = outer; operands = operands ++ vs; code = after }
    else None

-- out of the innermost label or frame
abbrev pub leave : Position → Option Position
leave z = left z.layers z.locals z.operands
