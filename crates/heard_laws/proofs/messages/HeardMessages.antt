-- What the journal hears in the spelling of each message, and is told by that of each reply.
use Rattle.std.proofs.Common.{◌<◌, ◌^◌}
use Rattle.ufs_bytes.specs.Fields.{field_at}
use Rattle.ufs_spec.proofs.ReadBack.{expected_again}
use Rattle.journal.specs.Heard.{brought_by}
use Rattle.heard_laws.proofs.Common.{ArrayVec, Bool, DataOut, Good, List, Message, None, Option, Some, Status, []}
use Rattle.heard_laws.proofs.Common.{answered, ap, arith, cond-false, drop, false, if_both, if◌then◌else◌, is_good}
use Rattle.heard_laws.proofs.Common.{is_short, le-ltb, length, none-some, padding, received, refl, response}
use Rattle.heard_laws.proofs.Common.{spelled_cdb, spelling, sym, tag_in, take, told, true, ℕ, ◌&&◌, ◌++◌, ◌==◌, ◌∙◌}
use Rattle.heard_laws.proofs.Common.{◌≡◌}
use Rattle.std.proofs.lemmas.List.{append-nil, take_all}
use Rattle.ufs_spec.proofs.ReadBack.{again}
use Rattle.ufs_spec.specs.Exchanges.{response_byte, status_byte}
use Rattle.ufs_spec.specs.Messages.{IsMessage, host_fault_of, zeros}
use Rattle.ufs_spec.specs.Queries.{Query}
use Rattle.ufs_spec.specs.declared.exchanges.Status.TheVariants.{Busy, CheckCondition, TaskSetFull}
use Rattle.ufs_spec.specs.declared.faults.HostFault.{HostFault}
use Rattle.ufs_spec.specs.declared.faults.HostFault.TheVariants.{Short}
use Rattle.ufs_spec.specs.declared.messages.Asked.{Asked}
use Rattle.ufs_spec.specs.declared.messages.Message.TheVariants.{Command, DataIn, LinkEvent, NopIn, NopOut}
use Rattle.ufs_spec.specs.declared.messages.Message.TheVariants.{QueryRequest, QueryResponse, ReadyToTransfer, Response, TaskRequest}
use Rattle.ufs_spec.specs.declared.messages.Message.TheVariants.{TaskResponse}
use Rattle.journal.specs.Heard.{Heard, asked, begun, heard, managed, query_answered}
use Rattle.journal.specs.Queries.{asked_setting, query_in}

-- ## Messages of a host

-- what has no fault is not short
pub not_short : (bytes : List ℕ) → host_fault_of bytes ≡ None → is_short bytes ≡ false
not_short bytes e = by (is_short bytes) _ e
  where
    by : (b : Bool) (rest : Option HostFault) → (if b then Some Short else rest) ≡ None → b ≡ false
    by true rest e = absurd (none-some Short (sym e))
    by false rest e = refl

pub heard_nop : (j : Heard) (tag : ℕ) → heard j (spelling (NopOut tag)) ≡ j
heard_nop j tag = refl

-- the sixteen bytes of a CDB
cdb_again : (cdb : List ℕ) → length cdb ≡ 16 → take 16 (cdb ++ [] ++ []) ≡ cdb
cdb_again cdb sixteen =
    ap (take 16) (append-nil (cdb ++ []) ∙ append-nil cdb) ∙ take_all 16 cdb (omega (arith, sixteen))

pub heard_command : (j : Heard) (flags lun tag expected : ℕ) (cdb : List ℕ) → expected < 2 ^ 32 → length cdb ≡ 16 →
    is_short (spelling (Command flags lun tag expected cdb)) ≡ false →
    heard j (spelling (Command flags lun tag expected cdb))
    ≡ begun j (record { lun = lun; tag = tag }) (brought_by expected (spelled_cdb cdb))
heard_command j flags lun tag expected cdb fits sixteen long =
    cond-false (is_short (spelling (Command flags lun tag expected cdb))) j _ long
    ∙ ap (λ (bytes : List ℕ). begun j (record { lun = lun; tag = tag })
    (brought_by (field_at 4 12 (spelling (Command flags lun tag expected cdb))) (spelled_cdb bytes)))
    (cdb_again cdb sixteen)
    ∙ ap (λ (e : ℕ). begun j (record { lun = lun; tag = tag }) (brought_by e (spelled_cdb cdb)))
    (expected_again flags lun tag expected cdb fits)

pub heard_data : (j : Heard) (lun tag offset : ℕ) («data» : ArrayVec ℕ) →
    is_short (spelling (DataOut lun tag offset «data»)) ≡ false →
    heard j (spelling (DataOut lun tag offset «data»)) ≡ received j tag (spelling (DataOut lun tag offset «data»))
heard_data j lun tag offset «data» long =
    cond-false (is_short (spelling (DataOut lun tag offset «data»))) j _ long

-- the data of a message whose length is a multiple of four
pub data_of : (lun tag offset : ℕ) («data» : ArrayVec ℕ) → padding (length «data».items) ≡ 0 →
    drop 32 (spelling (DataOut lun tag offset «data»)) ≡ «data».items
data_of lun tag offset «data» none =
    ap (λ (n : ℕ). «data».items ++ zeros n) none ∙ append-nil «data».items

pub heard_task : (j : Heard) (lun tag function meant : ℕ) →
    heard j (spelling (TaskRequest lun tag function meant)) ≡ managed j function lun meant
heard_task j lun tag function meant = refl

abbrev pub query_of : Message → Query
query_of (QueryRequest tag function asked size value «data») =
    record { function = function; asked = asked; length = size; value = value }
query_of other = record {
  function = 0;
  asked = record { opcode = 0; idn = 0; index = 0; selector = 0 };
  length = 0;
  value = 0;
}

pub query_again : (tag function : ℕ) (ask : Asked) (size value : ℕ) («data» : ArrayVec ℕ) →
    IsMessage (QueryRequest tag function ask size value «data») →
    query_in (spelling (QueryRequest tag function ask size value «data»))
    ≡ record { function = function; asked = ask; length = size; value = value }
query_again tag function ask size value «data» is =
    ap query_of (again (QueryRequest tag function ask size value «data») is)

pub heard_query : (j : Heard) (tag function : ℕ) (ask : Asked) (size value : ℕ) («data» : ArrayVec ℕ) →
    IsMessage (QueryRequest tag function ask size value «data») →
    is_short (spelling (QueryRequest tag function ask size value «data»)) ≡ false →
    heard j (spelling (QueryRequest tag function ask size value «data»))
    ≡ asked j (record { lun = 0; tag = tag })
    (asked_setting (record { function = function; asked = ask; length = size; value = value }))
heard_query j tag function ask size value «data» is long =
    cond-false (is_short (spelling (QueryRequest tag function ask size value «data»))) j _ long
    ∙ ap (λ (q : Query). asked j (record { lun = 0; tag = tag }) (asked_setting q))
    (query_again tag function ask size value «data» is)

-- ## Replies

good_told : (status : Status) → ((response_byte status == 0x00) && (status_byte status == 0x00)) ≡ is_good status
good_told Good = refl
good_told (CheckCondition sense) = refl
good_told Busy = refl
good_told TaskSetFull = refl

pub told_response : (j : Heard) (lun tag expected carried : ℕ) (status : Status) →
    told j (spelling (response lun tag expected carried status)) ≡ answered j tag (is_good status)
told_response j lun tag expected carried status =
    cond-false (is_short (spelling (response lun tag expected carried status))) j _
    (le-ltb (length (spelling (response lun tag expected carried status))) 32 (omega arith))
    ∙ ap (answered j tag) (good_told status)

pub told_data : (j : Heard) (lun tag offset : ℕ) («data» : ArrayVec ℕ) →
    told j (spelling (DataIn lun tag offset «data»)) ≡ j
told_data j lun tag offset «data» =
    cond-false (is_short (spelling (DataIn lun tag offset «data»))) j _
    (le-ltb (length (spelling (DataIn lun tag offset «data»))) 32 (omega arith))

pub told_ready : (j : Heard) (lun tag offset count : ℕ) → told j (spelling (ReadyToTransfer lun tag offset count)) ≡ j
told_ready j lun tag offset count = refl

pub told_nop : (j : Heard) (tag : ℕ) → told j (spelling (NopIn tag)) ≡ j
told_nop j tag = refl

pub told_task : (j : Heard) (lun tag service : ℕ) → told j (spelling (TaskResponse lun tag service)) ≡ j
told_task j lun tag service = refl

pub told_query : (j : Heard) (tag function code : ℕ) (ask : Asked) (size value : ℕ) («data» : ArrayVec ℕ) →
    told j (spelling (QueryResponse tag function code ask size value «data»)) ≡ query_answered j tag code
told_query j tag function code ask size value «data» =
    cond-false (is_short (spelling (QueryResponse tag function code ask size value «data»))) j _
    (le-ltb (length (spelling (QueryResponse tag function code ask size value «data»))) 32 (omega arith))

-- ## Any reply

-- what a reply can be told as
pub told_any : (P : Heard → Type 0) (j : Heard) (m : Message) → P j → ((good : Bool) → P (answered j (tag_in m) good)) →
    ((code : ℕ) → P (query_answered j (tag_in m) code)) → P (told j (spelling m))
told_any P j (NopOut tag) same response query = same
told_any P j (Command flags lun tag expected cdb) same response query =
    if_both P (is_short (spelling (Command flags lun tag expected cdb))) {x = j} {y = j} same same
told_any P j (DataOut lun tag offset «data») same response query =
    if_both P (is_short (spelling (DataOut lun tag offset «data»))) {x = j} {y = j} same same
told_any P j (TaskRequest lun tag function meant) same response query = same
told_any P j (QueryRequest tag function ask size value «data») same response query =
    if_both P (is_short (spelling (QueryRequest tag function ask size value «data»))) {x = j} {y = j} same same
told_any P j (LinkEvent kind) same response query = same
told_any P j (NopIn tag) same response query = same
told_any P j (Response flags lun tag told_response status residual sense) same response query =
    if_both P (is_short (spelling (Response flags lun tag told_response status residual sense))) {x = j}
    {y = answered j tag ((told_response == 0x00) && (status == 0x00))} same
    (response ((told_response == 0x00) && (status == 0x00)))
told_any P j (DataIn lun tag offset «data») same response query =
    if_both P (is_short (spelling (DataIn lun tag offset «data»))) {x = j} {y = j} same same
told_any P j (TaskResponse lun tag service) same response query = same
told_any P j (ReadyToTransfer lun tag offset count) same response query = same
told_any P j (QueryResponse tag function code ask size value «data») same response query =
    if_both P (is_short (spelling (QueryResponse tag function code ask size value «data»))) {x = j}
    {y = query_answered j tag code} same (query code)
