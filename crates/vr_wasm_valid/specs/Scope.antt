-- What the checker's index spaces and scopes mean.
use Rattle.std.specs.Prelude.{◌++◌, reverse}
use Rattle.vr_wasm_valid.specs.declared.scope.Scope.{Scope}
use Rattle.vr_wasm_valid.specs.declared.spaces.IndexSpaces.{IndexSpaces}
use Rattle.vr_wasm_valid.specs.Context.{Context, Spaces}

-- the index spaces that the checker holds
abbrev pub spaces_in : IndexSpaces → Spaces
spaces_in s = record {
  types = s.types.now;
  functions = s.functions;
  tables = s.tables;
  memories = s.memories;
  globals = s.globals;
}

-- the innermost label is the last of the checker's, and the first of the context's
abbrev pub context_in : Scope → Context
context_in s = record {
  spaces = spaces_in s.spaces.now;
  locals = s.params.now ++ s.declared.now;
  returns = s.returns;
  labels = reverse s.labels;
}
