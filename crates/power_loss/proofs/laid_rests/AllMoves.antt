-- Rests stay laid over their pages along each move, and an opened layer has none.
use Rattle.power_loss.proofs.Common.{Accept, Acknowledge, Bool, Claim, EndJob, GiveJob, IsAllowedMove, Keep, LetGo}
use Rattle.power_loss.proofs.Common.{LetGoAll, Move, Numbers, Release, Spot, TakeStep, Translation, Valid, WantPage}
use Rattle.power_loss.proofs.Common.{is_for, is_for_task, moved, refl}
use Rattle.power_loss.specs.LaidRests.{RestsLaid}
use Rattle.power_loss.proofs.laid_rests.LaidGroups.{laid_accepts}
use Rattle.power_loss.proofs.laid_rests.LaidMoves.{job_begins, job_ends, laid_turns, lets_go}
use Rattle.power_loss.proofs.laid_rests.LaidStay.{none_laid}
use Rattle.ufs_spec.specs.Cells.{Cells}
use Rattle.ufs_spec.specs.Openings.{IsOpenedTranslation}

pub laid_move : (t : Translation) (move : Move) → Valid t → RestsLaid t → IsAllowedMove t move →
    RestsLaid (moved t move)
laid_move t (Claim count) v h may = h
laid_move t (Release count) v h may = h
laid_move t (Accept claimed g) v h may = laid_accepts t claimed g v h may
laid_move t (Acknowledge count) v h may = h
laid_move t (Keep key pin) v h may = h
laid_move t (WantPage tag index) v h may = h
laid_move t (LetGo tag index) v h may = lets_go t (is_for tag index) h
laid_move t (LetGoAll tag) v h may = lets_go t (is_for_task tag) h
laid_move t (GiveJob die flight) v h may = job_begins t die flight may h
laid_move t (EndJob die ending) v h may = job_ends t die (t.disk.flights die) ending v refl may h
laid_move t TakeStep v h may = laid_turns t v h

pub laid_opened : (n : Numbers) (c : Cells) (bad : Spot → Bool) (t : Translation) → IsOpenedTranslation n c bad t →
    RestsLaid t
laid_opened n c bad t o = none_laid o.no_rests
