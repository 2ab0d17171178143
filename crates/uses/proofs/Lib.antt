mod CountedRows
mod DirectLinks
mod PolledRows
