-- The functions of a program that a valid module was linked to can be called.
use Rattle.std.proofs.Common.{ℕ, ◌+◌, ◌-◌, ◌≡◌, ◌<◌, List, length, slice_get, Option, Some, All, subst, inl, inr, arith}
use Rattle.std.proofs.lemmas.Bool.{cases_lt}
use Rattle.std.proofs.lemmas.List.{length-append}
use Rattle.std.proofs.lemmas.List.Elements.{All-get_or}
use Rattle.std.proofs.lemmas.Option.{get_or_from_slice_get, slice_get_within}
use Rattle.vr_wasm_ast.specs.declared.tree.Module.{Module}
use Rattle.vr_wasm_ast.specs.Imports.{imported_functions}
use Rattle.vr_wasm_ast.specs.Instructions.{instructions_of}
use Rattle.vr_wasm_ast.specs.Limits.{TypeWithin, BodyWithin}
use Rattle.vr_wasm_link.specs.Linked.{IsLinked, IsImported, IsOwn}
use Rattle.vr_wasm_steps.specs.Rows.{Callee, own, outside, Program}
use Rattle.vr_wasm_steps.specs.Store.{Store}
use Rattle.vr_wasm_run.specs.Calls.{Finds, IsCallable, AreCallable}

same : (f g : Callee) (o : Option Callee) → o ≡ Some f → o ≡ Some g → f ≡ g
same f g o e q = cc

each : {X : Type 0} (P : X → Type 0) (xs : List X) (i : ℕ) (x : X) → slice_get xs i ≡ Some x → All P xs → P x
each P xs i x e all = subst P (get_or_from_slice_get xs i x x e) (All-get_or P xs i x (slice_get_within xs i x e) all)

module _ {W : Type 0} (finds : Finds) (m : Module) (p : Program W) (store : Store) (h : IsLinked finds m p store) where
  imported_callable : (place : ℕ) (f : Callee) → slice_get p.functions place ≡ Some f → place < length (imported_functions m.imports) → IsCallable finds f
  imported_callable place f there l =
      let i : IsImported finds m p.functions place = h.imported place l in
      subst (IsCallable finds) (same (outside i.sort i.which) f (slice_get p.functions place) i.there there) (i.from, i.name, i.found)

  own_callable : (place : ℕ) (f : Callee) → slice_get p.functions (length (imported_functions m.imports) + place) ≡ Some f → place < length m.functions → IsCallable finds f
  own_callable place f there l =
      let i : IsOwn m p.functions place = h.owned place l in
      let sort : TypeWithin i.sort = each TypeWithin m.types i.typed.index i.sort i.typed.type_there h.valid.limits.each_type in
      let code : BodyWithin i.code = each BodyWithin m.codes place i.code i.typed.code_there h.valid.limits.each_body in
      subst (IsCallable finds)
      (same (own i.sort (length i.code.locals) (instructions_of i.code.body)) f (slice_get p.functions (length (imported_functions m.imports) + place)) i.there there)
      (sort.1, omega (arith, code.0))

  pub linked_callable : AreCallable finds p.functions
  linked_callable place f there = elim (cases_lt place (length (imported_functions m.imports))) [
    | inl l ↦ imported_callable place f there l
    | inr l ↦
        let within : place < length p.functions = slice_get_within p.functions place f there in
        let few : place - length (imported_functions m.imports) < length m.functions = omega (arith, within, l, h.count, length-append (imported_functions m.imports) m.functions) in
        let back : place ≡ length (imported_functions m.imports) + (place - length (imported_functions m.imports)) = omega (arith, l) in
        own_callable (place - length (imported_functions m.imports)) f (subst (λ n. slice_get p.functions n ≡ Some f) back there) few
  ]
