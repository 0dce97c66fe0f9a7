-- The sizes of the two parts of a message's spelling: its header and its segment.
use Rattle.std.proofs.Common.{◌≡◌, ◌+◌, ◌≤◌, ℕ, List, length, take, Option, Some, None, refl, ap, ◌∙◌, arith}
use Rattle.std.proofs.Common.{length-append}
use Rattle.ufs_spec.specs.Messages.{IsMessage, IsSense, header_of, segment_of, sense_of}
use Rattle.ufs_spec.specs.declared.messages.Message.{Message}
use Rattle.ufs_spec.specs.declared.messages.Message.TheVariants as message

-- the header of a message has 32 bytes
pub header_size : (m : Message) → IsMessage m → length (header_of m) ≡ 32
header_size (message.Command flags lun tag expected cdb) h =
    length-append (take 16 (header_of (message.Command flags lun tag expected cdb))) cdb ∙ ap (λ (k : ℕ). 16 + k) h.4
header_size other h = refl

sense_size : (status : ℕ) (sense : Option (List ℕ)) → IsSense status sense → length (sense_of sense) ≤ 4096
sense_size status None h = omega arith
sense_size status (Some bytes) h = let twenty = h.1 in omega arith

-- a segment has at most 4096 bytes
pub segment_size : (m : Message) → IsMessage m → length (segment_of m) ≤ 4096
segment_size (message.DataOut lun tag offset «data») h = h.3.1
segment_size (message.QueryRequest tag function asked size value «data») h = h.3
segment_size (message.Response flags lun tag response status residual sense) h = sense_size status sense h.6
segment_size (message.DataIn lun tag offset «data») h = h.3.1
segment_size (message.QueryResponse tag function response asked size value «data») h = h.4
segment_size other h = omega arith
