-- What keeps the entries of a journal in step with the accepted commands.
use Rattle.heard_laws.proofs.Common.{Bool, Doubted, List, None, Noted, Option, Some, [], ap, arith, false, if_both}
use Rattle.heard_laws.proofs.Common.{if◌then◌else◌, inl, inr, length, length-append, max, none-some, refl}
use Rattle.heard_laws.proofs.Common.{setting_command, slice_get, subst, sym, true, ℕ, ⊎_elim, ◌&&◌, ◌++◌, ◌==◌, ◌∙◌}
use Rattle.heard_laws.proofs.Common.{◌∷◌, ◌≡◌, ◌≤◌, ◌⊎◌}
use Rattle.std.specs.Prelude.{slice_index_or, slice_set}
use Rattle.ufs_spec.proofs.Facts.{at_most}
use Rattle.ufs_spec.specs.Commands.{Command}
use Rattle.journal.specs.Entries.{Accepted, Refused}
use Rattle.journal.specs.Heard.{settled}
use Rattle.heard_laws.proofs.agreement.Agreement.{Books}
use Rattle.heard_laws.proofs.rolls.Rolls.{Roll, count, count_more, somes_none, somes_some}
use Rattle.heard_laws.proofs.rolls.StandingRolls.{Stands, stand_more, stand_set, stands_at}

-- ## One entry more

-- of a command that is accepted
pub command_noted : {accepted : List Command} {held : ℕ} {entries : List Noted} {acknowledged : ℕ} {roll : Roll}
    (e : Noted) (c : Command) → Stands e (Some c) → Books accepted held entries acknowledged roll →
    Books (accepted ++ c ∷ []) held (entries ++ e ∷ []) acknowledged (roll ++ Some c ∷ [])
command_noted {accepted} {held} {entries} {acknowledged} {roll} e c one b = record {
  stand = stand_more entries roll e (Some c) b.stand one;
  accepted_are = somes_some roll c ∙ ap (λ (cs : List Command). cs ++ c ∷ []) b.accepted_are;
  inside = let l = length-append roll (Some c ∷ []) in let i = b.inside in omega (arith, l, i);
  few = let l = count_more acknowledged roll (Some c) b.inside in let f = b.few in omega (arith, l, f);
}

-- of none
pub nothing_noted : {accepted : List Command} {held : ℕ} {entries : List Noted} {acknowledged : ℕ} {roll : Roll}
    (e : Noted) → Stands e None → Books accepted held entries acknowledged roll →
    Books accepted held (entries ++ e ∷ []) acknowledged (roll ++ None ∷ [])
nothing_noted {accepted} {held} {entries} {acknowledged} {roll} e one b = record {
  stand = stand_more entries roll e None b.stand one;
  accepted_are = somes_none roll ∙ b.accepted_are;
  inside = let l = length-append roll (None ∷ []) in let i = b.inside in omega (arith, l, i);
  few = let l = count_more acknowledged roll None b.inside in let f = b.few in omega (arith, l, f);
}

-- ## What is acknowledged

max_either : (a b : ℕ) → (max a b ≡ a) ⊎ (max a b ≡ b)
max_either a b = ⊎_elim (λ l. inr (omega (arith, l))) (λ l. inl (omega (arith, l))) (at_most a b)

-- so many entries more, or fewer
pub acknowledged_too : {accepted : List Command} {held : ℕ} {entries : List Noted} {acknowledged : ℕ} {roll : Roll}
    (promised : ℕ) → promised ≤ length roll → count promised roll ≤ held →
    Books accepted held entries acknowledged roll →
    Books accepted held entries (max acknowledged promised) roll
acknowledged_too {accepted} {held} {entries} {acknowledged} {roll} promised inside few b =
    ⊎_elim (λ e. subst (λ (n : ℕ). Books accepted held entries n roll) (sym e) b)
    (λ e. subst (λ (n : ℕ). Books accepted held entries n roll) (sym e)
    (record { stand = b.stand; accepted_are = b.accepted_are; inside = inside; few = few }))
    (max_either acknowledged promised)

-- more are held
pub held_more : {accepted : List Command} {held more : ℕ} {entries : List Noted} {acknowledged : ℕ} {roll : Roll} →
    held ≤ more → Books accepted held entries acknowledged roll → Books accepted more entries acknowledged roll
held_more {accepted} {held} {more} {entries} {acknowledged} {roll} l b =
    record {
      stand = b.stand;
      accepted_are = b.accepted_are;
      inside = b.inside;
      few = let f = b.few in omega (arith, f, l);
    }

-- ## A setting is settled

success_stands : (is_locked : Bool) (e : Noted) (c : Command) → Stands e (Some c) →
    Stands (settled is_locked 0x00 e) (Some c)
success_stands is_locked (Accepted d) c h = h
success_stands is_locked (Doubted s) c h = ⊎_elim (λ (e : Some c ≡ None). absurd (none-some c (sym e))) (λ e. e) h
success_stands is_locked Refused c h = absurd (none-some c (sym h))

refused_stands : (is_locked : Bool) (code : ℕ) (e : Noted) → (code == 0x00) ≡ false → Stands e None →
    Stands (settled is_locked code e) None
refused_stands is_locked code (Accepted d) other h = h
refused_stands is_locked code (Doubted s) other h =
    subst (λ (b : Bool). Stands (if b then Accepted (setting_command s)
    else if (code == 0xFF) && is_locked then Doubted s else Refused) None) (sym other)
    (if_both (λ (e : Noted). Stands e None) ((code == 0xFF) && is_locked) (inl refl) refl)
refused_stands is_locked code Refused other h = h

-- a lock ended it, so it stays in doubt
ended_stands : (e : Noted) (c : Command) → Stands e (Some c) → Stands (settled true 0xFF e) (Some c)
ended_stands (Accepted d) c h = h
ended_stands (Doubted s) c h = h
ended_stands Refused c h = h

settle : {accepted : List Command} {held : ℕ} {entries : List Noted} {acknowledged : ℕ} {roll : Roll} (place : ℕ)
    (o : Option Command) (to : Noted → Noted) → slice_get roll place ≡ Some o →
    ((e : Noted) → Stands e o → Stands (to e) o) → Books accepted held entries acknowledged roll →
    Books accepted held (slice_set entries place (to (slice_index_or entries place Refused))) acknowledged roll
settle {accepted} {held} {entries} {acknowledged} {roll} place o to at keeps b =
    record {
      stand = stand_set entries roll place (to (slice_index_or entries place Refused)) o b.stand at
          (keeps (slice_index_or entries place Refused) (stands_at entries roll place o b.stand at));
      accepted_are = b.accepted_are;
      inside = b.inside;
      few = b.few;
    }

pub settled_well : {accepted : List Command} {held : ℕ} {entries : List Noted} {acknowledged : ℕ} {roll : Roll}
    (is_locked : Bool) (place : ℕ) (c : Command) → slice_get roll place ≡ Some (Some c) →
    Books accepted held entries acknowledged roll →
    Books accepted held (slice_set entries place (settled is_locked 0x00 (slice_index_or entries place Refused)))
    acknowledged roll
settled_well is_locked place c at b =
    settle place (Some c) (settled is_locked 0x00) at (λ e. success_stands is_locked e c) b

pub settled_ill : {accepted : List Command} {held : ℕ} {entries : List Noted} {acknowledged : ℕ} {roll : Roll}
    (is_locked : Bool) (place code : ℕ) → slice_get roll place ≡ Some None → (code == 0x00) ≡ false →
    Books accepted held entries acknowledged roll →
    Books accepted held (slice_set entries place (settled is_locked code (slice_index_or entries place Refused)))
    acknowledged roll
settled_ill is_locked place code at other b =
    settle place None (settled is_locked code) at (λ e. refused_stands is_locked code e other) b

pub settled_by_lock : {accepted : List Command} {held : ℕ} {entries : List Noted} {acknowledged : ℕ} {roll : Roll}
    (place : ℕ) (c : Command) → slice_get roll place ≡ Some (Some c) → Books accepted held entries acknowledged roll →
    Books accepted held (slice_set entries place (settled true 0xFF (slice_index_or entries place Refused)))
    acknowledged roll
settled_by_lock place c at b = settle place (Some c) (settled true 0xFF) at (λ e. ended_stands e c) b
