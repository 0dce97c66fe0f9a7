use Rattle.ufs_laws.proofs.refusals.TableLines.{flush_refused, no_region, no_region_to_write}
use Rattle.ufs_laws.proofs.refusals.TableLines.{blocks, crowded, flag, full, list, operation, other_response, past}
use Rattle.ufs_laws.proofs.refusals.TableLines.{protected, ready, ready_and_protected, ready_first, response_first, unit}
use Rattle.ufs_laws.proofs.table.each_line_of_the_table_counts.Goals as goal

pub returns-clause-full : goal.returns-clause-full
returns-clause-full c = full

pub returns-clause-unit : goal.returns-clause-unit
returns-clause-unit c = unit

pub returns-clause-operation : goal.returns-clause-operation
returns-clause-operation c = operation

pub returns-clause-blocks : goal.returns-clause-blocks
returns-clause-blocks c = blocks

pub returns-clause-list : goal.returns-clause-list
returns-clause-list c = list

pub returns-clause-flag : goal.returns-clause-flag
returns-clause-flag c = flag

pub returns-clause-past : goal.returns-clause-past
returns-clause-past c = past

pub returns-clause-ready_and_protected : goal.returns-clause-ready_and_protected
returns-clause-ready_and_protected c = ready_and_protected

pub returns-clause-ready : goal.returns-clause-ready
returns-clause-ready c = ready

pub returns-clause-protected : goal.returns-clause-protected
returns-clause-protected c = protected

pub returns-clause-flush : goal.returns-clause-flush
returns-clause-flush c = flush_refused

pub returns-clause-ready_first : goal.returns-clause-ready_first
returns-clause-ready_first c = ready_first

pub returns-clause-response : goal.returns-clause-response
returns-clause-response c = response_first

pub returns-clause-other_response : goal.returns-clause-other_response
returns-clause-other_response c = other_response

pub returns-clause-crowded : goal.returns-clause-crowded
returns-clause-crowded c = crowded

pub returns-clause-no_region : goal.returns-clause-no_region
returns-clause-no_region c = no_region

pub returns-clause-no_region_to_write : goal.returns-clause-no_region_to_write
returns-clause-no_region_to_write c = no_region_to_write
