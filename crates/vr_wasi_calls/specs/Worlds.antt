-- The world of a running program: all that its calls depend on beside their arguments and the
-- memory.
use Rattle.std.specs.Prelude.{◌≡◌, ℕ, List, [], ◌∷◌, ◌++◌, length, replicate, slice_get, slice_set, Option, IsSome, IsTrue, All, unwrap_or, refl}
use Rattle.std.specs.Coded.{Coded, code_by, coded×, coded_list, coded_ℕ}
use Rattle.std.specs.FinMap.{get}
use Rattle.vr_base.specs.Rights.{word_on, has_bit, path_open}
use Rattle.vr_files.specs.Bodies.{resized, written}
use Rattle.vr_files.specs.FileMaps.{bytes_at}
use Rattle.vr_files.specs.Changes.{Layers, coded_layers, with_file, without_file}
use Rattle.vr_wasi_calls.specs.contracts.descriptors.Descriptor as descriptor
use Rattle.vr_wasi_calls.specs.declared.descriptors.Descriptor.{Descriptor}
use Rattle.vr_wasi_calls.specs.declared.descriptors.Descriptor.TheVariants.{Closed, Input, Output, Errors, Directory, File}
use Rattle.vr_wasi_calls.specs.declared.descriptors.OpenFile.{OpenFile}
use Rattle.vr_wasi_calls.specs.declared.descriptors.TheConstants.{DESCRIPTORS}

-- The program's path and grants; the files, over those of the run's beginning; its input and how
-- many bytes of it were read; what it has written so far; and its descriptors, of which each has
-- its place.
pub record World : Type 0 where
  pub path : List ℕ
  pub grants : List (List ℕ × ℕ)
  pub files : Layers
  pub input : List ℕ
  pub taken : ℕ
  pub output : List ℕ
  pub descriptors : List Descriptor

-- a world of its parts
abbrev pub assembled :
    List ℕ → List (List ℕ × ℕ) → Layers → List ℕ → ℕ → List ℕ → List Descriptor → World
assembled path grants files input taken output descriptors = record {
  path = path;
  grants = grants;
  files = files;
  input = input;
  taken = taken;
  output = output;
  descriptors = descriptors;
}

abbrev pub coded_world : Coded World
coded_world =
    code_by (List ℕ × (List (List ℕ × ℕ) × (Layers × (List ℕ × (ℕ × (List ℕ × List Descriptor))))))
    (coded× (coded_list coded_ℕ) (coded× (coded_list (coded× (coded_list coded_ℕ) coded_ℕ))
    (coded× coded_layers (coded× (coded_list coded_ℕ) (coded× coded_ℕ
    (coded× (coded_list coded_ℕ) (coded_list descriptor.the_row.coded)))))))
    (λ w. (w.path, (w.grants, (w.files, (w.input, (w.taken, (w.output, w.descriptors)))))))
    (λ p. assembled p.0 p.1.0 p.1.1.0 p.1.1.1.0 p.1.1.1.1.0 p.1.1.1.1.1.0 p.1.1.1.1.1.1) (λ _. refl)

-- ---- reading a world

-- what stands at a descriptor; past the last one nothing is open
abbrev pub descriptor_at : World → ℕ → Descriptor
descriptor_at w fd = unwrap_or (slice_get w.descriptors fd) Closed

-- the program's rights word on a path
abbrev pub word_at : World → List ℕ → ℕ
word_at w path = word_on path w.grants

-- the bytes of a file, where it is there
abbrev pub file_at : World → List ℕ → Option (List ℕ)
file_at w path = get w.files.files path

-- ---- changing a world

-- the world with a file made or replaced
abbrev pub with_body : World → List ℕ → List ℕ → World
with_body w path body = record w { files = with_file w.files path body }

-- the world without a file
abbrev pub without_body : World → List ℕ → World
without_body w path = record w { files = without_file w.files path }

-- the world with something else at a descriptor
abbrev pub with_descriptor : World → ℕ → Descriptor → World
with_descriptor w fd descriptor = record w { descriptors = slice_set w.descriptors fd descriptor }

-- the world with an open file at another position
abbrev pub with_position : World → ℕ → OpenFile → ℕ → World
with_position w fd file position = with_descriptor w fd (File (record file { position = position }))

-- the world with what stands at a descriptor at another position, where it is a file
abbrev pub positioned : World → ℕ → Descriptor → ℕ → World
positioned w fd (File file) position = with_position w fd file position
positioned w fd descriptor position = w

-- the file of an open descriptor is there
abbrev pub IsThere : World → Descriptor → Type 0
IsThere w (File file) = IsSome (file_at w file.path)
IsThere w descriptor = ⊥

-- the world with a piece written into the file of a descriptor, which is there
abbrev pub patched : World → Descriptor → ℕ → List ℕ → World
patched w (File file) at piece =
    with_body w file.path (written (bytes_at w.files.files file.path) at piece)
patched w descriptor at piece = w

-- the world with the file of a descriptor, which is there, cut to a size or filled up with zeros
abbrev pub sized_at : World → Descriptor → ℕ → World
sized_at w (File file) size =
    with_body w file.path (resized (bytes_at w.files.files file.path) size)
sized_at w descriptor size = w

-- the world with so many bytes of the input read
abbrev pub with_taken : World → ℕ → World
with_taken w taken = record w { taken = taken }

-- the world with more output
abbrev pub with_output : World → List ℕ → World
with_output w bytes = record w { output = w.output ++ bytes }

-- ---- what is true of each world

-- An open file's path may be opened, and every bit of its base word is one of the program's on the
-- path.
pub record IsAllowed (word base : ℕ) : Type 0 where
  pub opened : IsTrue (has_bit word path_open)
  pub bounded : (bit : ℕ) → IsTrue (has_bit base bit) → IsTrue (has_bit word bit)

-- what stands at a descriptor is allowed by the grants
abbrev pub DescriptorFits : List (List ℕ × ℕ) → Descriptor → Type 0
DescriptorFits grants (File file) = IsAllowed (word_on file.path grants) file.base
DescriptorFits grants descriptor = Unit {0}

-- each descriptor is there, and is allowed
pub record IsWorld (w : World) : Type 0 where
  pub all : length w.descriptors ≡ DESCRIPTORS
  pub allowed : All (DescriptorFits w.grants) w.descriptors

-- the descriptors that a program begins with: its input, its output, its messages and the directory
abbrev pub first_descriptors : List Descriptor
first_descriptors = Input ∷ Output ∷ Errors ∷ Directory ∷ replicate 60 Closed

-- the world that a program begins with
abbrev pub first_world : List ℕ → List (List ℕ × ℕ) → Layers → List ℕ → World
first_world path grants files input = assembled path grants files input 0 [] first_descriptors
