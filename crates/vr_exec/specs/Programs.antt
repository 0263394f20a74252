-- The program that a file's bytes are, or why they are none: they spell no module, the module isn't valid, or it can't be
-- linked to the calls of WASI.
use Rattle.std.specs.Prelude.{◌≡◌, ℕ, List, Some, Ok, Err}
use Rattle.std.specs.FinMap.{get}
use Rattle.vr_base.specs.declared.calls.Why.{Why}
use Rattle.vr_base.specs.declared.calls.Why.TheVariants.{Decode, Invalid, Link}
use Rattle.vr_files.specs.FileMaps.{FileMap}
use Rattle.vr_wasi_calls.specs.Functions.{finds}
use Rattle.vr_wasm_ast.specs.declared.tree.Module.{Module}
use Rattle.vr_wasm_ast.specs.Modules.{IsModule}
use Rattle.vr_wasm_decode.specs.declared.fault.DecodeFault.{DecodeFault}
use Rattle.vr_wasm_decode.specs.Faults as decoding
use Rattle.vr_wasm_decode.specs.Modules.{module_of}
use Rattle.vr_wasm_link.specs.declared.faults.LinkFault.{LinkFault}
use Rattle.vr_wasm_link.specs.Faults as linking
use Rattle.vr_wasm_link.specs.Opening.{Opening, opening_of}
use Rattle.vr_wasm_valid.specs.Parts.{IsFirstRefused, IsTyped}

-- What is run: a module, and what it opens with.
pub record Executable : Type 0 where
  pub tree : Module
  pub opening : Opening

-- The bytes spell a valid module, and this is what it opens with, where a run may have so many pages of memory.
pub record IsProgram (pages : ℕ) (bytes : List ℕ) (executable : Executable) : Type 0 where
  pub spelled : IsModule bytes executable.tree
  pub typed : IsTyped executable.tree
  pub linked : opening_of finds executable.tree pages ≡ Ok executable.opening

-- The bytes spell no module: this is the first fault in them.
pub record IsUndecoded (bytes : List ℕ) (kind at : ℕ) : Type 0 where
  pub fault : DecodeFault
  pub found : module_of bytes ≡ Err fault
  pub kind_is : kind ≡ decoding.number_of fault.kind
  pub at_is : at ≡ fault.at

-- The bytes spell a module: this is the first component of it that breaks its rule.
pub record IsInvalid (bytes : List ℕ) (part index : ℕ) : Type 0 where
  pub tree : Module
  pub spelled : IsModule bytes tree
  pub refused : IsFirstRefused tree part index

-- The bytes spell a valid module: this is its first link fault.
pub record IsUnlinked (pages : ℕ) (bytes : List ℕ) (kind index : ℕ) : Type 0 where
  pub tree : Module
  pub spelled : IsModule bytes tree
  pub typed : IsTyped tree
  pub fault : LinkFault
  pub found : opening_of finds tree pages ≡ Err fault
  pub kind_is : kind ≡ linking.number_of fault.kind
  pub index_is : index ≡ fault.index

-- why the bytes are no program
abbrev pub IsNoProgram : ℕ → List ℕ → Why → Type 0
IsNoProgram pages bytes (Decode kind at) = IsUndecoded bytes kind at
IsNoProgram pages bytes (Invalid part index) = IsInvalid bytes part index
IsNoProgram pages bytes (Link kind index) = IsUnlinked pages bytes kind index

-- The file of a path is there, and its bytes are this program.
pub record HasProgram (pages : ℕ) (files : FileMap) (path : List ℕ) (executable : Executable)
    : Type 0 where
  pub bytes : List ℕ
  pub there : get files path ≡ Some bytes
  pub is_program : IsProgram pages bytes executable

-- The file of a path is there, and its bytes are no program for this reason.
pub record HasNoProgram (pages : ℕ) (files : FileMap) (path : List ℕ) (why : Why) : Type 0 where
  pub bytes : List ℕ
  pub there : get files path ≡ Some bytes
  pub is_none : IsNoProgram pages bytes why
