use Rattle.cms_stream_laws.proofs.WholeFiles.{read_alike, faults_of_files, good_files, read_files}
use Rattle.cms_stream_laws.proofs.ContentInfosShown.{faults_openly}
use Rattle.cms_stream_laws.proofs.files_are_read_alike.Goals as goal

pub returns-clause-alike : goal.returns-clause-alike
returns-clause-alike c = read_alike

pub returns-clause-faults : goal.returns-clause-faults
returns-clause-faults c = faults_of_files

pub returns-clause-openly : goal.returns-clause-openly
returns-clause-openly c = faults_openly

pub returns-clause-good : goal.returns-clause-good
returns-clause-good c = good_files

pub returns-clause-read : goal.returns-clause-read
returns-clause-read c = read_files
