-- The machine values of a `Slot`. Assumes `Logic`.
--     ids_held ..    what a slot holds, if its flag says that it holds that
--     slot_out       a slot that holds something is [the box of what it holds; the handle], at a pointer that isn't null
--     slot_in        the same back
--     empty_in       a slot that holds nothing, from the handle alone
use Rattle.std.proofs.Common.{◌≡◌, ℕ, List, [], ◌∷◌, ◌++◌, refl, sym, subst}
use mathlib.Core.Bool.{true, ◌&&◌, true≢false}
use lib.Dec.{T}
use seplogic.Ra.Ura.{Ura}
use mir.Syntax.{impl, tnil, dnil}
use mir.Raw.{raw as bare}
use mir.Val.{Val, vptr, vstruct, of_list, has_ty, WT}
use base.Logic.{never, fst∗}
use types.Logic.{Logic, sem}
use types.Kit.{Item, Goal, Seq, Step, step, ‵, ◌$◌, move, drop, fsplit, fjoin, fpick, fpack, rewrite, feq_i, feq_l}
use denote.RattleType.{RattleType, Valss}
use denote.Memory.{lone}
use denote.RawPtr.{Ptr, block_ptr, null_ptr, ptr_val, in_a_block}
use denote.Steps.{nothing}
use denote.Param.{layout}
use denote.Struct.Struct.{within}
use denote.Struct.Owning.{shape, fields, to}
use Rattle.core.proofs.alloc.Calls.{Al, handle_tells}
use Rattle.core.proofs.atomic.Steps.{Ptr-Good}
use Rattle.core.proofs.cell.Inside.{Good}
use Rattle.std_alloc.proofs.ResultValues.{and_tt}
use Rattle.core.specs.declared.option.Option.{Option}
use Rattle.core.specs.declared.option.Option.TheVariants.{None, Some}
use Rattle.core.specs.Option.{is_some}
use Rattle.std.specs.contracts.alloc.Global as heap
use Rattle.std.proofs.alloc.Global.TheLaws as heap_laws
use Rattle.std.specs.declared.alloc.Global.{Global}
use Rattle.std.specs.contracts.impls.GlobalAllocator.TheImpl.{ghosts}
use Rattle.std_alloc.specs.Box.Ownership.{box_owns}
use Rattle.puffin_c.specs.contracts.slot.Slot as slot
use Rattle.puffin_c.specs.declared.held.Held.{Held}
use Rattle.puffin_c.specs.declared.held.Held.TheVariants.{Ids, Thread, Profiler}
use Rattle.puffin_c.specs.Owning.{owns_held, row_of, value_of, ids_of, thread_of, profiler_of}
use Rattle.puffin_threads.specs.Thread.Calls as threads
use Rattle.puffin_c.specs.declared.shared_ids.SharedIds.{SharedIds}
use Rattle.puffin_c.specs.declared.profiler.Profiler as profiler
use Rattle.puffin_c.proofs.RawBoxes.{two}

-- the heap's handle, the slot, and the heap as an allocator
abbrev pub Z : RattleType
Z = heap.the_row

abbrev pub S : RattleType
S = slot.the_row

abbrev pub al : Al
al = record { row = Z; laws = heap_laws.the_row_laws; g = ghosts; d = impl [] tnil dnil; drops = impl [] tnil dnil }

pub ids_held : (held : Option Held) → is_some (ids_of held) ≡ true → (x : SharedIds) × (held ≡ Some (Ids x))
ids_held None some = absurd (true≢false (sym some))
ids_held (Some (Ids x)) some = (x, refl)
ids_held (Some (Thread x)) some = absurd (true≢false (sym some))
ids_held (Some (Profiler x)) some = absurd (true≢false (sym some))

pub thread_held : (held : Option Held) → is_some (thread_of held) ≡ true → (x : threads.Thread) × (held ≡ Some (Thread x))
thread_held None some = absurd (true≢false (sym some))
thread_held (Some (Ids x)) some = absurd (true≢false (sym some))
thread_held (Some (Thread x)) some = (x, refl)
thread_held (Some (Profiler x)) some = absurd (true≢false (sym some))

pub profiler_held : (held : Option Held) → is_some (profiler_of held) ≡ true →
    (x : profiler.Profiler) × (held ≡ Some (Profiler x))
profiler_held None some = absurd (true≢false (sym some))
profiler_held (Some (Ids x)) some = absurd (true≢false (sym some))
profiler_held (Some (Thread x)) some = absurd (true≢false (sym some))
profiler_held (Some (Profiler x)) some = (x, refl)

-- a null pointer and a handle have the types of a slot's fields
pub empty_good : (h : Val) → Good (layout Z) h → T (has_ty (layout Z) h && true) × WT (two (ptr_val null_ptr) h)
empty_good h fits = (and_tt (has_ty (layout Z) h) fits.0, ((Ptr-Good null_ptr).1, (fits.1, tt)))

module _ {M : Type 1} {𝓤 : Ura M} {𝓛 : Logic 𝓤} {K : Type 0} {Γ : List (Item 𝓤)} {G : Goal 𝓤 𝓛.H} where
  pub slot_out : K → (d : S.Denot) (vs : List Val) (x : Held) → d.held ≡ Some x
      → ((b o : ℕ) (h : Val) → vs ≡ two (vptr b o) h ∷ [] → Good (layout Z) h →
      Seq K 𝓛 (‵ (box_owns (ghosts.dealloc_token d.heap) (row_of x) (block_ptr b o) (value_of x))
      ∷ ‵ (Z.own_val d.heap (h ∷ [])) ∷ Γ) G)
      → Seq K 𝓛 (‵ (S.own_val d vs) ∷ Γ) G
  slot_out t d vs x held next =
      fsplit t $
      fpick t (λ parts. fsplit t $
      feq_l t (λ whole. fsplit t $
      feq_l t (λ pointer. fsplit t $
      handle_tells al t d.heap parts.1.0 (λ h is fits. move t (1 ∷ []) $ drop t $ move t (1 ∷ []) $
      rewrite t 0 (λ (m : Option Held). ‵ (owns_held d.heap d.at m)) held refl $
      in_a_block t d.at (λ p. box_owns (ghosts.dealloc_token d.heap) (row_of x) p (value_of x))
      (fst∗ 𝓤 (never 𝓤) (sem 𝓛 (ghosts.dealloc_token d.heap (bare (lone (row_of x).mir)) null_ptr)))
      (λ b o at. next b o h
      (subst (λ (p : Ptr). vs ≡ vstruct (of_list (ptr_val p ∷ h ∷ [])) ∷ []) at
      (subst (λ (ws : List Val). vs ≡ vstruct (of_list (ptr_val d.at ∷ (ws ++ []))) ∷ []) is
      (subst (λ (ps : List Val). vs ≡ vstruct (of_list (ps ++ (parts.1.0 ++ []))) ∷ []) pointer whole))) fits)))))

  pub slot_in : K → (b o : ℕ) (h : Val) (a : Global) (x : Held)
      → Step K 𝓛 (‵ (S.own_val (record { at = block_ptr b o; heap = a; held = Some x }) (two (vptr b o) h ∷ [])) ∷ Γ) G
      (‵ (box_owns (ghosts.dealloc_token a) (row_of x) (block_ptr b o) (value_of x)) ∷ ‵ (Z.own_val a (h ∷ [])) ∷ Γ) G
  slot_in t b o h a x = step (λ next. let word : Val = two (vptr b o) h in
      nothing t $ move t (2 ∷ 0 ∷ []) $ fjoin t $ feq_i t (List Val) (vptr b o ∷ []) (vptr b o ∷ []) refl $ fjoin t $
      feq_i t (List Val) (word ∷ []) (word ∷ []) refl $ fjoin t $
      fpack t (Valss (fields slot.the_type))
      (within (shape slot.the_type) (to slot.the_type (record { at = block_ptr b o; heap = a; held = Some x })) (word ∷ []))
      (vptr b o ∷ [], (h ∷ [], tt)) $ fjoin t $ next)

  pub empty_in : K → (h : Val) (a : Global)
      → Step K 𝓛 (‵ (S.own_val (record { at = null_ptr; heap = a; held = None }) (two (ptr_val null_ptr) h ∷ [])) ∷ Γ) G
      (‵ (Z.own_val a (h ∷ [])) ∷ Γ) G
  empty_in t h a = step (λ next. let word : Val = two (ptr_val null_ptr) h in
      nothing t $ nothing t $ move t (2 ∷ 0 ∷ []) $ fjoin t $
      feq_i t (List Val) (ptr_val null_ptr ∷ []) (ptr_val null_ptr ∷ []) refl $ fjoin t $
      feq_i t (List Val) (word ∷ []) (word ∷ []) refl $ fjoin t $
      fpack t (Valss (fields slot.the_type))
      (within (shape slot.the_type) (to slot.the_type (record { at = null_ptr; heap = a; held = None })) (word ∷ []))
      (ptr_val null_ptr ∷ [], (h ∷ [], tt)) $ fjoin t $ next)
