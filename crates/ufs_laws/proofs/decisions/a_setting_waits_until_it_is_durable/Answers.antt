use Rattle.ufs_laws.proofs.decided_data.SettingsWait as settings
use Rattle.ufs_laws.proofs.decisions.a_setting_waits_until_it_is_durable.Goals as goal

pub returns-clause-accepted : goal.returns-clause-accepted
returns-clause-accepted c = settings.accepted

pub returns-clause-waits : goal.returns-clause-waits
returns-clause-waits c = settings.waits

pub returns-clause-not_due : goal.returns-clause-not_due
returns-clause-not_due c = settings.not_due

pub returns-clause-lock : goal.returns-clause-lock
returns-clause-lock c = settings.lock

pub returns-clause-stays : goal.returns-clause-stays
returns-clause-stays c = settings.stays

pub returns-clause-not_mended : goal.returns-clause-not_mended
returns-clause-not_mended c = settings.not_mended

pub returns-clause-shut : goal.returns-clause-shut
returns-clause-shut c = settings.shut

pub returns-clause-no_slot : goal.returns-clause-no_slot
returns-clause-no_slot c = settings.no_slot

pub returns-clause-boot_refused : goal.returns-clause-boot_refused
returns-clause-boot_refused c = settings.boot_refused

pub returns-clause-flag_refused : goal.returns-clause-flag_refused
returns-clause-flag_refused c = settings.flag_refused

pub returns-clause-nothing : goal.returns-clause-nothing
returns-clause-nothing c = settings.nothing
