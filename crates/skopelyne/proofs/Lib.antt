mod Most
