use Rattle.ufs_laws.proofs.refusals.ProfileLines.{page_or_saved, ready_or_test, region_or_page, saved_or_blocks, saved_or_list}
use Rattle.ufs_laws.proofs.refusals.ProfileLines.{test_or_other_response, test_or_response, test_or_slots, write_or_test}
use Rattle.ufs_laws.proofs.refusals.TableLines.{blocks_or_list, boot_or_operation, other_response_or_slots}
use Rattle.ufs_laws.proofs.refusals.TableLines.{response_or_slots, write_or_other_response, write_or_response}
use Rattle.ufs_laws.proofs.refusals.TableLines.{unit_or_operation}
use Rattle.ufs_laws.proofs.table.lines_that_never_meet.Goals as goal

pub returns-clause-blocks_or_list : goal.returns-clause-blocks_or_list
returns-clause-blocks_or_list c = blocks_or_list

pub returns-clause-write_or_response : goal.returns-clause-write_or_response
returns-clause-write_or_response c = write_or_response

pub returns-clause-write_or_other_response : goal.returns-clause-write_or_other_response
returns-clause-write_or_other_response c = write_or_other_response

pub returns-clause-response_or_slots : goal.returns-clause-response_or_slots
returns-clause-response_or_slots c = response_or_slots

pub returns-clause-other_response_or_slots : goal.returns-clause-other_response_or_slots
returns-clause-other_response_or_slots c = other_response_or_slots

pub returns-clause-unit_or_operation : goal.returns-clause-unit_or_operation
returns-clause-unit_or_operation c = unit_or_operation

pub returns-clause-boot_or_operation : goal.returns-clause-boot_or_operation
returns-clause-boot_or_operation c = boot_or_operation

pub returns-clause-region_or_page : goal.returns-clause-region_or_page
returns-clause-region_or_page c = region_or_page

pub returns-clause-page_or_saved : goal.returns-clause-page_or_saved
returns-clause-page_or_saved c = page_or_saved

pub returns-clause-saved_or_blocks : goal.returns-clause-saved_or_blocks
returns-clause-saved_or_blocks c = saved_or_blocks

pub returns-clause-saved_or_list : goal.returns-clause-saved_or_list
returns-clause-saved_or_list c = saved_or_list

pub returns-clause-ready_or_test : goal.returns-clause-ready_or_test
returns-clause-ready_or_test c = ready_or_test

pub returns-clause-write_or_test : goal.returns-clause-write_or_test
returns-clause-write_or_test c = write_or_test

pub returns-clause-test_or_response : goal.returns-clause-test_or_response
returns-clause-test_or_response c = test_or_response

pub returns-clause-test_or_other_response : goal.returns-clause-test_or_other_response
returns-clause-test_or_other_response c = test_or_other_response

pub returns-clause-test_or_slots : goal.returns-clause-test_or_slots
returns-clause-test_or_slots c = test_or_slots
