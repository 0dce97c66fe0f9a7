-- The machine values of a `Bare`, which has the fields of a `Loose`. Assumes `Logic`.
use Rattle.std.proofs.Common.{◌≡◌, ℕ, List, [], ◌∷◌, ◌++◌, refl, subst}
use seplogic.Ra.Ura.{Ura}
use mir.Raw.{raw as bare_ty}
use mir.Val.{Val, vptr, vstruct, of_list}
use base.Logic.{never, fst∗}
use types.Logic.{Logic, sem}
use types.Kit.{Item, Goal, Seq, Step, step, ‵, ◌$◌, move, drop, fsplit, fjoin, fpick, fpack, rewrite, feq_i, feq_l}
use denote.RattleType.{RattleType, Valss}
use denote.Memory.{lone}
use denote.RawPtr.{Ptr, block_ptr, null_ptr, ptr_val, in_a_block}
use denote.Steps.{nothing}
use denote.Param.{layout}
use denote.Struct.Struct.{within}
use denote.Struct.Owning.{shape, to, fields}
use Rattle.std.specs.Prelude.{Option, Some, None, IfNone}
use Rattle.std.specs.declared.alloc.Global.{Global}
use Rattle.std.specs.contracts.alloc.Global as heap
use Rattle.std.proofs.alloc.Global.TheLaws as heap_laws
use Rattle.std.specs.contracts.impls.GlobalAllocator.TheImpl.{ghosts}
use Rattle.std.specs.Box.Ownership.{box_owns}
use Rattle.std.proofs.alloc.Calls.{handle_tells}
use Rattle.std.proofs.cell.Inside.{Good}
use Rattle.ufs_handle.specs.Holding.{holds}
use Rattle.ufs_handle.specs.declared.held.Held.{Held}
use Rattle.ufs_handle.specs.contracts.held.Held as held
use Rattle.ufs_handle.specs.contracts.bare.Bare as bare
use Rattle.ufs_handle.proofs.Values.{al, both}

abbrev pub R : RattleType
R = held.the_row

abbrev pub Z : RattleType
Z = heap.the_row

abbrev pub B : RattleType
B = bare.the_row

-- what is there, where it is not nothing
pub there : (o : Option Held) → IfNone o ⊥ → (x : Held) × (o ≡ Some x)
there None wrong = absurd wrong
there (Some x) _ = (x, refl)

module _ {M : Type 1} {𝓤 : Ura M} {𝓛 : Logic 𝓤} {K : Type 0} {Γ : List (Item 𝓤)} {G : Goal 𝓤 𝓛.H} where
  pub bare_out : K → (d : B.Denot) (vs : List Val) (x : Held) → d.value ≡ Some x
      → ((b o : ℕ) (h : Val) → vs ≡ both (vptr b o) h ∷ [] → Good (layout Z) h → Seq K 𝓛 (‵ (box_owns (ghosts.dealloc_token d.alloc) R (block_ptr b o) x) ∷ ‵ (Z.own_val d.alloc (h ∷ [])) ∷ Γ) G)
      → Seq K 𝓛 (‵ (B.own_val d vs) ∷ Γ) G
  bare_out t d vs x is k =
      fsplit t $ fpick t (λ vss. fsplit t $ feq_l t (λ ev. fsplit t $ feq_l t (λ ep. fsplit t $ handle_tells (al R Z heap_laws.the_row_laws ghosts) t d.alloc vss.1.0 (λ h ea fits. move t (1 ∷ []) $ drop t $ move t (1 ∷ []) $
      rewrite t 0 (λ (y : Option Held). ‵ (holds R d.alloc d.at y)) is refl $
      in_a_block t d.at (λ p. box_owns (ghosts.dealloc_token d.alloc) R p x) (fst∗ 𝓤 (never 𝓤) (sem 𝓛 (ghosts.dealloc_token d.alloc (bare_ty (lone R.mir)) null_ptr))) (λ b o e. k b o h
      (subst (λ (p : Ptr). vs ≡ vstruct (of_list (ptr_val p ∷ h ∷ [])) ∷ []) e
      (subst (λ (ws : List Val). vs ≡ vstruct (of_list (ptr_val d.at ∷ (ws ++ []))) ∷ []) ea (subst (λ (ps : List Val). vs ≡ vstruct (of_list (ps ++ (vss.1.0 ++ []))) ∷ []) ep ev))) fits)))))

  pub bare_in : K → (p : Ptr) (h : Val) (a : Global) (y : Option Held)
      → Step K 𝓛 (‵ (B.own_val (record { at = p; alloc = a; value = y }) (both (ptr_val p) h ∷ [])) ∷ Γ) G (‵ (holds R a p y) ∷ ‵ (Z.own_val a (h ∷ [])) ∷ Γ) G
  bare_in t p h a y = step (λ s. let v : Val = both (ptr_val p) h in
      nothing t $ move t (2 ∷ 0 ∷ []) $ fjoin t $ feq_i t (List Val) (ptr_val p ∷ []) (ptr_val p ∷ []) refl $ fjoin t $ feq_i t (List Val) (v ∷ []) (v ∷ []) refl $ fjoin t $
      fpack t (Valss (fields bare.the_type)) (within (shape bare.the_type) (to bare.the_type (record { at = p; alloc = a; value = y })) (v ∷ [])) (ptr_val p ∷ [], (h ∷ [], tt)) $ fjoin t $ s)
