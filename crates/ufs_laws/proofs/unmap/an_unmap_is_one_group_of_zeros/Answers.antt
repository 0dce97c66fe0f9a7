use Rattle.ufs_laws.proofs.Common.{Zero, refl}
use Rattle.ufs_laws.proofs.decided_data.SettingsCarried.{now_applied}
use Rattle.ufs_laws.proofs.decided_data.UnmapSlots.{list, pages}
use Rattle.ufs_laws.proofs.unmap.an_unmap_is_one_group_of_zeros.Goals as goal

pub returns-clause-pages : goal.returns-clause-pages
returns-clause-pages c = pages

pub returns-clause-group : goal.returns-clause-group
returns-clause-group c = λ s unit address count claimed. refl

pub returns-clause-shown : goal.returns-clause-shown
returns-clause-shown c = λ s unit address count claimed. now_applied s (Zero unit address count) claimed

pub returns-clause-list : goal.returns-clause-list
returns-clause-list c = list
